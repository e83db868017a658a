use Rattle.std.proofs.Common.{◌+◌, ◌≡◌, ◌≤◌, ℕ, List, ◌++◌, drop, length, map, take, Option, None, Some, refl, sym, ◌∙◌, ap, subst, arith}
use Rattle.std.proofs.lemmas.Bool.{false≢true}
use Rattle.std.proofs.lemmas.List.{length-map}
use Rattle.disk_model.specs.declared.cells.TheConstants.{BODY}
use Rattle.disk_model.specs.Cells.{Cell, seen_cells}
use Rattle.disk_model.specs.DiskState.{DiskState, size_of}
use Rattle.disk_model.specs.MemDisk.{state_of}
use Rattle.plant_core.specs.Plants.{device_of, text_digest, view_of}
use Rattle.plant_image.specs.Contents.{contents_of, last_number}
use Rattle.plant_model.specs.Firing.{FiringDefinition}
use Rattle.plant_model.specs.Chosen.{fired_of}
use Rattle.plant_model.specs.Plant.{PlantDefinition}
use Rattle.plant_model.specs.System.{digest_of, plant_of}
use Rattle.plant_model.specs.declared.fired.Firing.{Firing}
use Rattle.crash_explorer.specs.Judging.{IsRunOf}
use Rattle.crash_explorer.specs.Outcomes.{IsNext, IsNextOf}
use Rattle.crash_explorer.specs.Running.{IsAt, is_formatting}
use Rattle.crash_explorer.specs.Verdicts.{IsFound, IsOpened, IsVerdict, found_in}
use Rattle.crash_explorer.specs.declared.booting.Found.{Found}
use Rattle.crash_explorer.specs.declared.booting.Found.TheVariants.{Booted, Refused}
use Rattle.crash_explorer.specs.declared.booting.Opened.{Opened}
use Rattle.crash_explorer.specs.declared.booting.Opened.TheVariants as opened
use Rattle.crash_explorer.specs.declared.judging.Verdict.{Verdict}
use Rattle.crash_explorer.specs.declared.outcome.Next.{Next}
use Rattle.crash_explorer.proofs.Fronts.{cut-front, cut-rest, cut-whole}
use Rattle.crash_explorer.proofs.GoneOn.{found-opened, front-is-run, opened-alike, right-stands}
use Rattle.crash_explorer.proofs.Stopped.{booted-at}
use Rattle.crash_explorer.proofs.outcome.outcome_of.Goals as goal

-- the verdict of a run whose firings were cut in two
cut-verdict : (plant : PlantDefinition) (digest : List ℕ) (bytes acked : ℕ) (firings front rest : List Firing) (cells : List Cell) (v : Verdict) → front ≡ take acked firings → rest ≡ drop acked firings
    → IsVerdict plant digest bytes (map fired_of front) (map fired_of rest) cells v
    → IsVerdict plant digest bytes (take acked (map fired_of firings)) (drop acked (map fired_of firings)) cells v
cut-verdict plant digest bytes acked firings front rest cells v is_front is_rest is =
    let fronts : map fired_of front ≡ take acked (map fired_of firings) = ap (λ (l : List Firing). map fired_of l) is_front ∙ cut-front fired_of acked firings in
    let rests : map fired_of rest ≡ drop acked (map fired_of firings) = ap (λ (l : List Firing). map fired_of l) is_rest ∙ cut-rest fired_of acked firings in
    subst (λ (cs : List FiringDefinition). IsVerdict plant digest bytes (take acked (map fired_of firings)) cs cells v) rests
    (subst (λ (cs : List FiringDefinition). IsVerdict plant digest bytes cs (map fired_of rest) cells v) fronts is)

pub verdict_on-requires-clause-run : goal.verdict_on-requires-clause-run
verdict_on-requires-clause-run c =
    let plant : PlantDefinition = plant_of c.args.system.now in
    let acked : ℕ = c.args.acked in
    let firings : List Firing = c.args.fired.now in
    let front : c.split_at.result.0.now ≡ take acked firings = c.split_at.ensures.front in
    let rest : c.split_at.result.1.now ≡ drop acked firings = c.split_at.ensures.back in
    let whole : map fired_of c.split_at.result.0.now ++ map fired_of c.split_at.result.1.now ≡ map fired_of firings =
    ap (λ (l : List Firing). map fired_of l ++ map fired_of c.split_at.result.1.now) front
    ∙ ap (λ (l : List Firing). map fired_of (take acked firings) ++ map fired_of l) rest
    ∙ cut-whole fired_of acked firings in
    subst (λ (l : List FiringDefinition). IsRunOf plant l) (sym whole) c.requires.run

pub returns-then-not-stands : goal.returns-then-not-stands
returns-then-not-stands c =
    let plant : PlantDefinition = plant_of c.args.system.now in
    let digest : List ℕ = digest_of c.args.system.now in
    let s : DiskState = state_of c.args.left in
    let cells : List Cell = seen_cells (BODY + 1) s in
    let acked : ℕ = c.args.acked in
    let fired : List FiringDefinition = map fired_of c.args.fired.now in
    let verdict : Verdict = c.in_ok-verdict.verdict in
    let judged : IsVerdict plant digest (size_of s) (take acked fired) (drop acked fired) cells verdict =
    cut-verdict plant digest (size_of s) acked c.args.fired.now c.split_at.result.0.now c.split_at.result.1.now cells verdict c.split_at.ensures.front c.split_at.ensures.back c.in_ok-verdict.ensures.verdict in
    let opens : IsOpened plant digest s c.in_ok-opened.opened =
    opened-alike plant digest s (state_of c.verdict_on.new.disk) c.in_ok-opened.opened c.in_ok-verdict.ensures.kept.same.now c.in_ok-opened.ensures in
    let found : IsFound plant digest (size_of s) cells c.found-found.result =
    subst (λ (f : Found). IsFound plant digest (size_of s) cells f) (sym c.found-found.ensures) (found-opened plant digest s c.in_ok-opened.opened opens) in
    let iff = c.is_right-stands.ensures plant digest (size_of s) (take acked fired) (drop acked fired) cells judged found in
    record {
      found_is = found;
      next_is = λ right. absurd (false≢true (sym c.if-not-stands.true ∙ iff.1 right));
      right_where = (λ yes. absurd (false≢true yes), λ both. sym c.if-not-stands.true ∙ iff.1 both.0);
    }

pub go_on-requires : goal.go_on-requires
go_on-requires c =
    let plant : PlantDefinition = plant_of c.args.system.now in
    let digest : List ℕ = digest_of c.args.system.now in
    let s : DiskState = state_of c.args.left in
    let cells : List Cell = seen_cells (BODY + 1) s in
    let acked : ℕ = c.args.acked in
    let fired : List FiringDefinition = map fired_of c.args.fired.now in
    let verdict : Verdict = c.in_ok-verdict.verdict in
    let judged : IsVerdict plant digest (size_of s) (take acked fired) (drop acked fired) cells verdict =
    cut-verdict plant digest (size_of s) acked c.args.fired.now c.split_at.result.0.now c.split_at.result.1.now cells verdict c.split_at.ensures.front c.split_at.ensures.back c.in_ok-verdict.ensures.verdict in
    let opens : IsOpened plant digest s c.in_ok-opened.opened =
    opened-alike plant digest s (state_of c.verdict_on.new.disk) c.in_ok-opened.opened c.in_ok-verdict.ensures.kept.same.now c.in_ok-opened.ensures in
    let found : IsFound plant digest (size_of s) cells c.found-found.result =
    subst (λ (f : Found). IsFound plant digest (size_of s) cells f) (sym c.found-found.ensures) (found-opened plant digest s c.in_ok-opened.opened opens) in
    let iff = c.is_right-stands.ensures plant digest (size_of s) (take acked fired) (drop acked fired) cells judged found in
    let p = c.in-Plant.plant in
    let is : IsOpened plant digest s (opened.Plant p) = subst (λ (o : Opened). IsOpened plant digest s o) c.in-Plant.is opens in
    let number : ℕ = c.front-held.result.fired in
    let tail : length (view_of p).tail ≡ 0 = ap (λ (cs : List FiringDefinition). length cs) is.3.tail in
    let last : number ≡ last_number (contents_of (length plant.atoms) cells) = omega (arith, c.front-held.ensures.fired, is.3.number, tail) in
    let many : length fired ≡ length c.args.fired.now = length-map c.args.fired.now fired_of in
    let within : acked ≤ length fired = omega (arith, c.requires.acked, many) in
    let stands = right-stands plant digest (size_of s) number acked fired (is_formatting c.args.stage) cells within is.3.sound last (iff.0 c.if-not-stands.false) in
    let behind : map fired_of c.in_ok-behind-in-Plant.behind.items ≡ take number fired =
    ap (λ (l : List Firing). map fired_of l) (c.in_ok-behind-in-Plant.ensures ∙ c.front_of.ensures) ∙ cut-front fired_of number c.args.fired.now in
    subst (λ (q : PlantDefinition). IsAt q (map fired_of c.in_ok-behind-in-Plant.behind.items) (view_of p)) (sym is.0)
    (subst (λ (cs : List FiringDefinition). IsAt plant cs (view_of p)) (sym behind)
    (booted-at plant digest (size_of s) (take number fired) cells (view_of p) (front-is-run plant digest number fired c.requires.run) is.3 stands))

pub returns-in_ok-next-in-Plant : goal.returns-in_ok-next-in-Plant
returns-in_ok-next-in-Plant c =
    let plant : PlantDefinition = plant_of c.args.system.now in
    let digest : List ℕ = digest_of c.args.system.now in
    let s : DiskState = state_of c.args.left in
    let cells : List Cell = seen_cells (BODY + 1) s in
    let acked : ℕ = c.args.acked in
    let fired : List FiringDefinition = map fired_of c.args.fired.now in
    let verdict : Verdict = c.in_ok-verdict.verdict in
    let judged : IsVerdict plant digest (size_of s) (take acked fired) (drop acked fired) cells verdict =
    cut-verdict plant digest (size_of s) acked c.args.fired.now c.split_at.result.0.now c.split_at.result.1.now cells verdict c.split_at.ensures.front c.split_at.ensures.back c.in_ok-verdict.ensures.verdict in
    let opens : IsOpened plant digest s c.in_ok-opened.opened =
    opened-alike plant digest s (state_of c.verdict_on.new.disk) c.in_ok-opened.opened c.in_ok-verdict.ensures.kept.same.now c.in_ok-opened.ensures in
    let found : IsFound plant digest (size_of s) cells c.found-found.result =
    subst (λ (f : Found). IsFound plant digest (size_of s) cells f) (sym c.found-found.ensures) (found-opened plant digest s c.in_ok-opened.opened opens) in
    let iff = c.is_right-stands.ensures plant digest (size_of s) (take acked fired) (drop acked fired) cells judged found in
    let p = c.in-Plant.plant in
    let is : IsOpened plant digest s (opened.Plant p) = subst (λ (o : Opened). IsOpened plant digest s o) c.in-Plant.is opens in
    let number : ℕ = c.front-held.result.fired in
    let n : Next = c.in_ok-next-in-Plant.next in
    let behind : map fired_of c.in_ok-behind-in-Plant.behind.items ≡ take number fired =
    ap (λ (l : List Firing). map fired_of l) (c.in_ok-behind-in-Plant.ensures ∙ c.front_of.ensures) ∙ cut-front fired_of number c.args.fired.now in
    let of_plant : IsNext plant (text_digest p) (size_of (device_of p)) c.args.tear (view_of p) (map fired_of c.in_ok-behind-in-Plant.behind.items) n =
    subst (λ (q : PlantDefinition). IsNext q (text_digest p) (size_of (device_of p)) c.args.tear (view_of p) (map fired_of c.in_ok-behind-in-Plant.behind.items) n) is.0 c.in_ok-next-in-Plant.ensures in
    let of_digest : IsNext plant digest (size_of (device_of p)) c.args.tear (view_of p) (map fired_of c.in_ok-behind-in-Plant.behind.items) n =
    subst (λ (d : List ℕ). IsNext plant d (size_of (device_of p)) c.args.tear (view_of p) (map fired_of c.in_ok-behind-in-Plant.behind.items) n) is.1 of_plant in
    let of_size : IsNext plant digest (size_of s) c.args.tear (view_of p) (map fired_of c.in_ok-behind-in-Plant.behind.items) n =
    subst (λ (m : ℕ). IsNext plant digest m c.args.tear (view_of p) (map fired_of c.in_ok-behind-in-Plant.behind.items) n) is.2 of_digest in
    let next : IsNext plant digest (size_of s) c.args.tear (view_of p) (take number fired) n =
    subst (λ (cs : List FiringDefinition). IsNext plant digest (size_of s) c.args.tear (view_of p) cs n) behind of_size in
    let by_number : IsNextOf plant digest (size_of s) c.args.tear fired cells (Booted number) (Some n) = (view_of p, is.3, n, refl, next) in
    let told : c.found-found.result ≡ Booted number =
    c.found-found.ensures ∙ ap (λ (o : Opened). found_in o) c.in-Plant.is ∙ ap (λ (m : ℕ). Booted m) (sym c.front-held.ensures.fired) in
    let both = c.are_right.ensures in
    record {
      found_is = found;
      next_is = λ right. subst (λ (f : Found). IsNextOf plant digest (size_of s) c.args.tear fired cells f (Some n)) (sym told) by_number;
      right_where = (λ yes. let w = both.0 yes in (iff.0 w.0, w.1), λ w. both.1 (iff.1 w.0, w.1));
    }

pub returns-in-Refused : goal.returns-in-Refused
returns-in-Refused c =
    let plant : PlantDefinition = plant_of c.args.system.now in
    let digest : List ℕ = digest_of c.args.system.now in
    let s : DiskState = state_of c.args.left in
    let cells : List Cell = seen_cells (BODY + 1) s in
    let acked : ℕ = c.args.acked in
    let fired : List FiringDefinition = map fired_of c.args.fired.now in
    let verdict : Verdict = c.in_ok-verdict.verdict in
    let judged : IsVerdict plant digest (size_of s) (take acked fired) (drop acked fired) cells verdict =
    cut-verdict plant digest (size_of s) acked c.args.fired.now c.split_at.result.0.now c.split_at.result.1.now cells verdict c.split_at.ensures.front c.split_at.ensures.back c.in_ok-verdict.ensures.verdict in
    let opens : IsOpened plant digest s c.in_ok-opened.opened =
    opened-alike plant digest s (state_of c.verdict_on.new.disk) c.in_ok-opened.opened c.in_ok-verdict.ensures.kept.same.now c.in_ok-opened.ensures in
    let found : IsFound plant digest (size_of s) cells c.found-found.result =
    subst (λ (f : Found). IsFound plant digest (size_of s) cells f) (sym c.found-found.ensures) (found-opened plant digest s c.in_ok-opened.opened opens) in
    let iff = c.is_right-stands.ensures plant digest (size_of s) (take acked fired) (drop acked fired) cells judged found in
    let told : c.found-found.result ≡ Refused c.in-Refused.field-0 = c.found-found.ensures ∙ ap (λ (o : Opened). found_in o) c.in-Refused.is in
    let none : Option Next = None in
    record {
      found_is = found;
      next_is = λ right. subst (λ (f : Found). IsNextOf plant digest (size_of s) c.args.tear fired cells f none) (sym told) refl;
      right_where = (λ yes. (iff.0 yes, tt), λ both. iff.1 both.0);
    }
