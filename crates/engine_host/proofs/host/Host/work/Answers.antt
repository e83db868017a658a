use Rattle.engine_host.proofs.host.Host.work.Goals as goal

pub returns-clause-watch : goal.returns-clause-watch
returns-clause-watch g c = (_, _, c.begin_for-answer.ensures.watch, c.work_all.ensures.watch)
