-- A refusal is a reading of the words of which the parse failed.
use Rattle.tmw_args.proofs.Shared.{App, ArgumentConflict, DisplayHelp, DisplayVersion, Err, ErrorKind, FailsAs, Help, inl, inr, IsAmong, IsRefusal, kinds_of, List, Memory, OutOfMemory, Reads, Refusal, subst, sym, Text, Usage, Version, ◌∙◌, ◌≡◌}

pub refused-reads : (program : App) (words : List Text) (kind : ErrorKind) (refusal : Refusal) → FailsAs program words kind
    → IsRefusal kind refusal → Reads program words (Err refusal)
refused-reads program words kind (Help text) (inl memory) is =
    let bad : OutOfMemory ≡ DisplayHelp = sym memory ∙ is in
    absurd (cc)
refused-reads program words kind (Help text) (inr (inl among)) is = subst (λ (k : ErrorKind). IsAmong k (kinds_of program words)) is among
refused-reads program words kind (Help text) (inr (inr (other, nothing))) is =
    let bad : ArgumentConflict ≡ DisplayHelp = sym other ∙ is in
    absurd (cc)
refused-reads program words kind Version (inl memory) is =
    let bad : OutOfMemory ≡ DisplayVersion = sym memory ∙ is in
    absurd (cc)
refused-reads program words kind Version (inr (inl among)) is = subst (λ (k : ErrorKind). IsAmong k (kinds_of program words)) is among
refused-reads program words kind Version (inr (inr (other, nothing))) is =
    let bad : ArgumentConflict ≡ DisplayVersion = sym other ∙ is in
    absurd (cc)
refused-reads program words kind (Usage text) (inl memory) (not_memory, not_help, not_version) = absurd (not_memory memory)
refused-reads program words kind (Usage text) (inr (inl among)) (not_memory, not_help, not_version) = inl (kind, among, not_help, not_version)
refused-reads program words kind (Usage text) (inr (inr (other, nothing))) (not_memory, not_help, not_version) = inr nothing
refused-reads program words kind Memory fails is = tt
