use Rattle.std.proofs.Common.{◌≡◌, ℕ, ◌<◌, ◌≤◌, false, get_or}
use Rattle.disk_model.specs.Recording.{byte_left}
use Rattle.disk_model.proofs.bytes.tear_marked.Given as goal

abbrev pub invariant-loop-i : goal.invariant-loop-i
invariant-loop-i l = record {
  done : (j : ℕ) → j < l.i → get_or l.bytes j 0 ≡ byte_left l.tear l.cell (get_or l.marks j false) j (get_or l.initial.bytes j 0) (get_or l.synced j 0);
  rest : (j : ℕ) → l.i ≤ j → get_or l.bytes j 0 ≡ get_or l.initial.bytes j 0;
}
