-- A summary behind runs.
use Rattle.std.specs.Prelude.{◌≡◌, ◌≢◌, ℕ, List, Option, Result, Err}
use Rattle.std.specs.Io.KnownBytes.{Appends}
use Rattle.run_text.specs.Ran.{OnRan}
use Rattle.run_text.specs.declared.fault.TraceFault.{TraceFault}
use Rattle.run_text.specs.declared.fault.TraceFault.TheVariants.{Memory, Write}

-- Runs ended so, and then this is answered; the output was `before`, and is `after` now. The answer is the same, unless the writer failed. Where neither memory, a writer nor the
-- source of the picks failed, this text was printed.
pub record IsBehind {W X : Type 0} (taken : W → Option (List ℕ)) (text : List ℕ) (ran result : Result X TraceFault) (before after : W) : Type 0 where
  pub same : result ≢ Err Write → result ≡ ran
  pub printed : OnRan result (Appends (taken before) (taken after) text)
  pub nothing_printed : result ≡ Err Memory → after ≡ before
