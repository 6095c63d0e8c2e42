use Rattle.jlr_server.proofs.Works.{ok_then}
use Rattle.jlr_server.proofs.server.serve_watched.Goals as goal

pub returns-in-Ok-run_threads : goal.returns-in-Ok-run_threads
returns-in-Ok-run_threads g c =
    let devices = c.args.devices.items in
    let began = c.in-Ok-run_threads.ensures devices c.in-Ok-begun.ensures.begun in
    rw c.requires.limits (record {
      served = ok_then c.close.result (λ watched is. (rw is at c.close.ensures.served) devices began);
    })
