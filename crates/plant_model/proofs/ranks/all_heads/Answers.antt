use Rattle.std.proofs.Common.{◌≡◌, ◌||◌, ◌∙◌, ⊎_elim, false, ap, sym, refl, length, arith}
use Rattle.std.specs.Cmp.{nat_cmp_total}
use Rattle.std.specs.FinSet.{contains, contains-empty, contains-union, union}
use Rattle.std.specs.Option.{option_map_or}
use Rattle.std.specs.Ordering.{nat_cmp}
use Rattle.std.proofs.lemmas.Bool.{both_ways, cases_eq, or_cases, or_left, or_right}
use Rattle.std.proofs.lemmas.Option.{slice_get_read, slice_get_within}
use Rattle.plant_model.specs.Ranks.{is_head_at}
use Rattle.plant_model.specs.declared.ranks.Shared.{Shared}
use Rattle.plant_model.proofs.Ranking.{head-there}
use Rattle.plant_model.proofs.ranks.all_heads.Goals as goal

pub loop-number-init : goal.loop-number-init
loop-number-init c m = (
  λ inside. absurd (both_ways (contains c.new-heads.result m) (ap (λ set. contains set m) c.new-heads.ensures ∙ contains-empty nat_cmp m) inside),
  λ some. absurd (omega (arith, some.1)),
)

pub loop-number-preserved : goal.loop-number-preserved
loop-number-preserved c m =
    let shared = c.args.shared.now in
    let n = c.loop-number.number in
    let its = c.index-shared-number.result in
    let old = c.loop-number.heads in
    let at = slice_get_read shared (length shared) n its refl c.loop-number-test.true c.index-shared-number.is in
    let here : is_head_at shared m n ≡ contains its.heads m = ap (λ o. option_map_or (λ (s : Shared). contains s.heads m) o false) at in
    let united : contains c.union_with.new.self m ≡ (contains old m || contains its.heads m) =
    ap (λ set. contains set m) c.union_with.ensures ∙ ap (λ (s : Shared). contains (union old s.heads) m) (sym c.index-shared-number.is) ∙ contains-union nat_cmp_total old its.heads m in
    let before = c.loop-number.invariant m in (
      λ inside. ⊎_elim
          (λ earlier. let found = before.0 earlier in (found.0, omega (arith, found.1), found.2))
          (λ new. (n, omega arith, here ∙ new))
          (or_cases (contains old m) (contains its.heads m) (sym united ∙ inside)),
      λ some. united ∙ ⊎_elim
          (λ same. or_right (contains old m) (contains its.heads m) (sym here ∙ ap (is_head_at shared m) (sym same) ∙ some.2))
          (λ other. or_left (contains old m) (contains its.heads m) (before.1 (some.0, omega (arith, some.1, other), some.2)))
          (cases_eq some.0 n),
    )

pub returns : goal.returns
returns c m = (
  λ inside. let found = (c.loop-number.invariant m).0 inside in (found.0, found.2),
  λ some. let there = head-there c.args.shared.now m some.0 some.1 in (c.loop-number.invariant m).1 (some.0, omega (arith, slice_get_within c.args.shared.now some.0 there.0 there.1, c.loop-number-test.false), some.1),
)
