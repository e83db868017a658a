use Rattle.std.proofs.Common.{ℕ, Some, ◌∙◌, ap}
use Rattle.device_tests.proofs.NewDevice.{new_device}
use Rattle.device_tests.proofs.tests.callers.new_cells.Goals as goal

pub returns-clause-ready : goal.returns-clause-ready
returns-clause-ready c =
    (new_device c.new-cells.result c.sync.new.self c.replace.new.self c.to_body.result (c.new-cells.ensures ∙ c.in_ok-disk.ensures.state) c.in_ok-sync.ensures.settles c.in_ok-sync.ensures.counts.keeps
    (c.to_body.ensures.reads_back ∙ ap (λ (n : ℕ). Some n) c.new-base.ensures) c.in_ok-replace.ensures.replaced).0

pub returns-clause-read : goal.returns-clause-read
returns-clause-read c =
    (new_device c.new-cells.result c.sync.new.self c.replace.new.self c.to_body.result (c.new-cells.ensures ∙ c.in_ok-disk.ensures.state) c.in_ok-sync.ensures.settles c.in_ok-sync.ensures.counts.keeps
    (c.to_body.ensures.reads_back ∙ ap (λ (n : ℕ). Some n) c.new-base.ensures) c.in_ok-replace.ensures.replaced).1
