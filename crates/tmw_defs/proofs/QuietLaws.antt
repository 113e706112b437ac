-- The law of quiet events, for each criterion.
use Rattle.tmw_defs.proofs.Shared.{Opacity, Strict}
use Rattle.tmw_defs.specs.QuietLaw.{QuietLaw}
use Rattle.tmw_defs.proofs.QuietProof.{final_opaque-quiet}
use Rattle.tmw_defs.proofs.StrictQuiet.{final_strict-quiet}

pub quiet_law : QuietLaw
quiet_law Opacity registers start h e final formed quiet = final_opaque-quiet registers start h e final formed quiet
quiet_law Strict registers start h e final formed quiet = final_strict-quiet registers start h e final formed quiet
