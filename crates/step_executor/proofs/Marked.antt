-- Which atoms are marked as moved since the last commit.
use Rattle.std.proofs.Common.{◌≡◌, ◌≢◌, ℕ, zero, suc, ◌+◌, ◌-◌, ◌^◌, ◌<◌, ◌==◌, refl, sym, ◌∙◌, ap, List, [], ◌∷◌, length, get_or, set, Contains, arith, Bool, true, false, cond, ◌||◌, eqb, ⊎_elim, ext_get_or, unwrap_or, w64}
use Rattle.std.specs.Prelude.{Option, Some, None, find, is_none, option_map, slice_get, bit_and}
use Rattle.std.specs.Int.{trailing_zeros}
use Rattle.std.specs.Option.{option_map_or}
use Rattle.std.proofs.lemmas.Bool.{cases_eq, cases_lt, eqb-true, false≢true, or_cases, or_parts}
use Rattle.std.proofs.lemmas.List.{length-set}
use Rattle.std.proofs.lemmas.Nat.{and_le_l, pow_pos}
use Rattle.std.proofs.lemmas.Nat.Bits.{bit_at-trailing_zeros, bit_at_clear_other, bit_at_clear_same}
use Rattle.std.proofs.lemmas.Option.{same_Some, slice_get-get_or, unwrap_or-slice_get}
use Rattle.petri_atom.specs.Definition.{AtomDefinition, fired}
use Rattle.petri_atom.specs.Local.{Local, Row, has}
use Rattle.petri_atom.proofs.Sets.{has-above}
use Rattle.plant_model.specs.Firing.{FiringDefinition}
use Rattle.plant_model.specs.Plant.{PlantDefinition}
use Rattle.plant_model.specs.Step.{transfer}
use Rattle.plant_model.specs.declared.choice.Move.{Move}
use Rattle.plant_model.proofs.Membership.{here, later}
use Rattle.plant_model.proofs.ValueRows.{set-here, set-other}
use Rattle.plant_model.proofs.WithoutLowest.{same-rest}
use Rattle.step_core.specs.Parts.{shown_in}
use Rattle.step_core.specs.Sure.{has_move, left_by, left_from, moved_parts, went_on}
use Rattle.step_executor.specs.Outstanding.{AreMarked, is_part_away}

-- ---- what a choice leaves of the atoms that no move is of

none-found : (moves : List Move) (n : ℕ) → has_move moves n ≡ false → find (λ m. m.atom == n) moves ≡ None
none-found [] n out = refl
none-found (m ∷ ms) n out =
    let both = or_parts (m.atom == n) (has_move ms n) out in
    ap (λ b. cond b (Some m) (find (λ k. k.atom == n) ms)) both.0 ∙ none-found ms n both.1

-- where the others fire
moved-from : (atoms : List AtomDefinition) (moves : List Move) (d : ℕ → Row) (k : ℕ) (parts : List (Option Local)) (n : ℕ) → has_move moves (k + n) ≡ false → slice_get (moved_parts atoms moves d k parts) n ≡ slice_get parts n
moved-from atoms moves d k [] n out = refl
moved-from atoms moves d k (part ∷ parts) zero out = ap Some (each (slice_get atoms k) part)
  where
    e : k ≡ k + 0
    e = omega arith

    none : find (λ m. m.atom == k) moves ≡ None
    none = none-found moves k (ap (has_move moves) e ∙ out)

    each : (o : Option AtomDefinition) (w : Option Local) → option_map (λ s. option_map_or (λ a. option_map_or (λ m. fired a m.transition (d k) s) (find (λ m. m.atom == k) moves) s) o s) w ≡ w
    each o None = refl
    each None (Some s) = refl
    each (Some a) (Some s) = ap (λ f. Some (option_map_or (λ m. fired a m.transition (d k) s) f s)) none
moved-from atoms moves d k (part ∷ parts) (suc n) out =
    let e : suc k + n ≡ k + suc n = omega arith in
    moved-from atoms moves d (suc k) parts n (ap (has_move moves) e ∙ out)

pub went-other : (plant : PlantDefinition) (parts : List (Option Local)) (c : FiringDefinition) (n : ℕ) → has_move c.moves n ≡ false → slice_get (went_on plant parts c) n ≡ slice_get parts n
went-other plant parts c n out =
    let e : 0 + n ≡ n = omega arith in
    moved-from plant.atoms c.moves (transfer plant (shown_in parts) c) 0 parts n (ap (has_move c.moves) e ∙ out)

-- where the others go away
left-other-from : (moves : List Move) (k : ℕ) (parts : List (Option Local)) (n : ℕ) → has_move moves (k + n) ≡ false → slice_get (left_from moves k parts) n ≡ slice_get parts n
left-other-from moves k [] n out = refl
left-other-from moves k (part ∷ parts) zero out =
    let e : k ≡ k + 0 = omega arith in
    ap (λ b. Some (cond b None part)) (ap (has_move moves) e ∙ out)
left-other-from moves k (part ∷ parts) (suc n) out =
    let e : suc k + n ≡ k + suc n = omega arith in
    left-other-from moves (suc k) parts n (ap (has_move moves) e ∙ out)

pub left-other : (parts : List (Option Local)) (moves : List Move) (n : ℕ) → has_move moves n ≡ false → slice_get (left_by parts moves) n ≡ slice_get parts n
left-other parts moves n out =
    let e : 0 + n ≡ n = omega arith in
    left-other-from moves 0 parts n (ap (has_move moves) e ∙ out)

-- both have as many
moved-long : (atoms : List AtomDefinition) (moves : List Move) (d : ℕ → Row) (k : ℕ) (parts : List (Option Local)) → length (moved_parts atoms moves d k parts) ≡ length parts
moved-long atoms moves d k [] = refl
moved-long atoms moves d k (part ∷ parts) = ap suc (moved-long atoms moves d (suc k) parts)

pub went-long : (plant : PlantDefinition) (parts : List (Option Local)) (c : FiringDefinition) → length (went_on plant parts c) ≡ length parts
went-long plant parts c = moved-long plant.atoms c.moves (transfer plant (shown_in parts) c) 0 parts

left-long-from : (moves : List Move) (k : ℕ) (parts : List (Option Local)) → length (left_from moves k parts) ≡ length parts
left-long-from moves k [] = refl
left-long-from moves k (part ∷ parts) = ap suc (left-long-from moves (suc k) parts)

pub left-long : (parts : List (Option Local)) (moves : List Move) → length (left_by parts moves) ≡ length parts
left-long parts moves = left-long-from moves 0 parts

-- ---- marks

-- an atom that a move is of is that of one of them
mover : (moves : List Move) (n : ℕ) → has_move moves n ≡ true → (m : Move) × Contains moves m × (m.atom ≡ n)
mover [] n some = absurd (false≢true some)
mover (m ∷ ms) n some = ⊎_elim
    (λ first. (m, here m ms, eqb-true m.atom n first))
    (λ more. let found = mover ms n more in (found.0, later m ms found.0 found.1, found.2))
    (or_cases (m.atom == n) (has_move ms n) some)

-- where all is committed none is marked
pub none-marked : (parts : List (Option Local)) → AreMarked 0 parts parts
none-marked parts = record {
  there = λ n marked. absurd (false≢true (sym (has-above 0 0 n (pow_pos 0) (omega arith)) ∙ marked));
  others = λ n out. refl;
}

-- and where none is marked all is committed
pub all-committed : (moved : ℕ) (committed parts : List (Option Local)) → moved ≡ 0 → length committed ≡ length parts → AreMarked moved committed parts → committed ≡ parts
all-committed moved committed parts none long marked = ext_get_or None committed parts long (λ n within.
    let out : has moved n ≡ false = ap (λ w. has w n) none ∙ has-above 0 0 n (pow_pos 0) (omega arith) in
    sym (unwrap_or-slice_get committed n None) ∙ ap (λ o. unwrap_or o None) (marked.others n out) ∙ unwrap_or-slice_get parts n None)

module _ (moved : ℕ) (committed parts : List (Option Local)) (marked : AreMarked moved committed parts) where
  -- where a choice changes the parts of its participants alone, and these are marked too
  pub marked-more : (more : ℕ) (moves : List Move) (after : List (Option Local)) → ((n : ℕ) → has more n ≡ (has moved n || has_move moves n)) → ((m : Move) → Contains moves m → m.atom < length parts)
      → length after ≡ length parts → ((n : ℕ) → has_move moves n ≡ false → slice_get after n ≡ slice_get parts n) → AreMarked more committed after
  marked-more more moves after told within long same = record {
    there = λ n marks. ⊎_elim
        (λ before. omega (arith, marked.there n before, long))
        (λ moves_it.
        let found = mover moves n moves_it in
        omega (arith, within found.0 found.1, found.2, long))
        (or_cases (has moved n) (has_move moves n) (sym (told n) ∙ marks));
    others = λ n out.
        let both = or_parts (has moved n) (has_move moves n) (sym (told n) ∙ out) in
        marked.others n both.0 ∙ sym (same n both.1);
  }

  -- where one comes back, and its state is committed too if nothing was kept of it
  pub marked-back : (n : ℕ) (s : Local) → length committed ≡ length parts → slice_get parts n ≡ Some None → n < length parts
      → AreMarked moved (cond (is_part_away committed n) (set committed n (Some s)) committed) (set parts n (Some s))
  marked-back n s long away within = each (is_part_away committed n) refl
    where
      more : List (Option Local)
      more = set parts n (Some s)

      in-more : (k : ℕ) → has moved k ≡ true → k < length more
      in-more k marks = omega (arith, marked.there k marks, length-set parts n (Some s))

      each : (b : Bool) → is_part_away committed n ≡ b → AreMarked moved (cond b (set committed n (Some s)) committed) more
      each true is = record {
        there = in-more;
        others = λ k out. ⊎_elim
            (λ same.
            ap (slice_get (set committed n (Some s))) same ∙ set-here committed n (Some s) (omega (arith, within, long)) ∙
            sym (ap (slice_get more) same ∙ set-here parts n (Some s) within))
            (λ other. set-other committed n (Some s) k other ∙ marked.others k out ∙ sym (set-other parts n (Some s) k other))
            (cases_eq k n);
      }
      each false is = record {
        there = in-more;
        others = λ k out. ⊎_elim
            (λ same. absurd (false≢true (sym is ∙ ap (λ o. option_map_or is_none o false) (ap (slice_get committed) (sym same) ∙ marked.others k out ∙ ap (slice_get parts) same ∙ away))))
            (λ other. marked.others k out ∙ sym (set-other parts n (Some s) k other))
            (cases_eq k n);
      }

  -- the lowest mark, where there is one
  module _ (some : 0 < moved) (small : moved < 2 ^ 64) where
    abbrev lowest : ℕ
    lowest = trailing_zeros w64 moved

    low : lowest < 64
    low = (bit_at-trailing_zeros w64 moved some small).0

    pub lowest-there : lowest < length parts
    lowest-there = marked.there lowest (ap (λ x. eqb x 1) (bit_at-trailing_zeros w64 moved some small).1)

    -- without it the others are the same
    rest-same : (n : ℕ) → n ≢ lowest → has (bit_and moved (moved - 1)) n ≡ has moved n
    rest-same n other = ⊎_elim
        (λ within. ap (λ w. has w n) (same-rest w64 moved some small) ∙ ap (λ x. eqb x 1) (bit_at_clear_other w64 moved lowest low n within other))
        (λ past. has-above (bit_and moved (moved - 1)) 64 n (omega (arith, and_le_l moved (moved - 1), small)) past ∙ sym (has-above moved 64 n small past))
        (cases_lt n 64)

    rest-without : has (bit_and moved (moved - 1)) lowest ≡ false
    rest-without = ap (λ w. has w lowest) (same-rest w64 moved some small) ∙ ap (λ x. eqb x 1) (bit_at_clear_same w64 moved lowest low)

    -- its part is copied
    pub marked-less : (then : List (Option Local)) → length committed ≡ length parts → Some then ≡ option_map (set committed lowest) (slice_get parts lowest)
        → (length then ≡ length parts) × AreMarked (bit_and moved (moved - 1)) then parts
    marked-less then long is = (
      ap length made ∙ length-set committed lowest part ∙ long,
      record {
        there = λ n marks. ⊎_elim
            (λ same. absurd (false≢true (sym (ap (has (bit_and moved (moved - 1))) same ∙ rest-without) ∙ marks)))
            (λ other. marked.there n (sym (rest-same n other) ∙ marks))
            (cases_eq n lowest);
        others = λ n out. ap (λ ps. slice_get ps n) made ∙ ⊎_elim
            (λ same. ap (slice_get (set committed lowest part)) same ∙ set-here committed lowest part (omega (arith, lowest-there, long)) ∙ sym (ap (slice_get parts) same ∙ there))
            (λ other. set-other committed lowest part n other ∙ marked.others n (sym (rest-same n other) ∙ out))
            (cases_eq n lowest);
      },
    )
      where
        part : Option Local
        part = get_or parts lowest None

        there : slice_get parts lowest ≡ Some part
        there = slice_get-get_or parts lowest None lowest-there

        made : then ≡ set committed lowest part
        made = same_Some _ _ (is ∙ ap (option_map (set committed lowest)) there)
