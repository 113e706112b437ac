use Rattle.tmw_pump.proofs.Shared.{all_of, rest_in, ◌++◌, ◌≡◌}
use Rattle.tmw_pump.proofs.OneLog.{log-settled}
use Rattle.tmw_pump.proofs.pump.Pump.settle.Goals as goal

pub returns-clause-one_log : goal.returns-clause-one_log
returns-clause-one_log g c =
    let pump = c.args.self in
    let whole : all_of (rest_in c.new.result) ≡ pump.reader.taken ++ c.settle.result = cc in
    log-settled pump.reader c.args.writers.items c.settle.result (all_of (rest_in c.new.result)) c.settle.ensures c.requires.order whole
