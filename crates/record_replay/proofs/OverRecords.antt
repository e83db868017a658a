-- Replay over records: what one record does to a position, and what follows for lists of them.
use Rattle.std.proofs.Common.{◌≡◌, ◌+◌, ◌==◌, ◌<◌, ◌≤◌, nat_le, ℕ, refl, sym, ◌∙◌, ap, subst, List, [], ◌∷◌, ◌++◌, arith, Bool, true, false, cond, not, Option, Some, None, Result, Ok, Err}
use Rattle.std.specs.List.{list_all}
use Rattle.std.specs.Option.{option_map_or}
use Rattle.std.proofs.lemmas.Bool.{and_parts, eq-eqb, eqb-true, leb-true, leb-false, le-leb, lt-leb}
use Rattle.petri_atom.specs.Definition.{AtomDefinition, Fits, fired, is_well_formed, offers_number}
use Rattle.petri_atom.proofs.Fitting.{fired-fits}
use Rattle.record_codec.specs.Fired.{FiredFields}
use Rattle.record_codec.specs.declared.entry.Entry.{Entry}
use Rattle.record_replay.specs.Replay.{Position, is_included, ok_then, part_of, replay, replay_entry, replay_from, replay_record}
use Rattle.record_replay.specs.declared.fault.ReplayFault.{ReplayFault}
use Rattle.record_replay.specs.declared.fault.ReplayFault.TheVariants.{Gap, NotEnabled}

-- a fault is no Ok, and an Ok has one value
pub err-ok : (fault : ReplayFault) (q : Position) → ◌≡◌ {A = Result Position ReplayFault} (Err fault) (Ok q) → ⊥
err-ok fault q e = cc

pub same_Ok : (p q : Position) → ◌≡◌ {A = Result Position ReplayFault} (Ok p) (Ok q) → p ≡ q
same_Ok p q e = cc

-- what an entry past the saved count does
abbrev pub onward : AtomDefinition → ℕ → Entry → Position → Result Position ReplayFault
onward a number e p =
    cond (not (e.participation == p.count + 1)) (Err Gap)
    (cond (not (offers_number a p.state e.transition)) (Err (NotEnabled number))
    (Ok (record { state = fired a e.transition e.delivered p.state; count = p.count + 1 })))

module _ (a : AtomDefinition) (number : ℕ) (e : Entry) (p : Position) where
  -- one at most the saved count is passed over
  pub passes-entry : (saved : ℕ) → e.participation ≤ saved → replay_entry a saved number e p ≡ Ok p
  passes-entry saved behind = ap (λ b. cond b (Ok p) (onward a number e p)) (le-leb e.participation saved behind)

  -- and of one past it, that count says nothing more
  pub goes-onward : (saved : ℕ) → saved < e.participation → replay_entry a saved number e p ≡ onward a number e p
  goes-onward saved past = ap (λ b. cond b (Ok p) (onward a number e p)) (lt-leb e.participation saved past)

  -- one that is the next and is offered is fired
  pub fires-entry : e.participation ≡ p.count + 1 → offers_number a p.state e.transition ≡ true → onward a number e p ≡ Ok (record { state = fired a e.transition e.delivered p.state; count = p.count + 1 })
  fires-entry next offered =
      ap (λ b. cond (not b) (Err Gap) (cond (not (offers_number a p.state e.transition)) (Err (NotEnabled number)) (Ok (record { state = fired a e.transition e.delivered p.state; count = p.count + 1 })))) (eq-eqb e.participation (p.count + 1) next) ∙
      ap (λ b. cond (not b) (Err (NotEnabled number)) (Ok (record { state = fired a e.transition e.delivered p.state; count = p.count + 1 }))) offered

  -- and any that is taken is so
  pub onward-ok : (q : Position) → onward a number e p ≡ Ok q → (e.participation ≡ p.count + 1) × (record { state = fired a e.transition e.delivered p.state; count = p.count + 1 } ≡ q)
  onward-ok q taken = each (e.participation == p.count + 1) refl (offers_number a p.state e.transition) taken
    where
      after : Position
      after = record { state = fired a e.transition e.delivered p.state; count = p.count + 1 }

      each : (b : Bool) → (e.participation == p.count + 1) ≡ b → (d : Bool) → cond (not b) (Err Gap) (cond (not d) (Err (NotEnabled number)) (Ok (record { state = fired a e.transition e.delivered p.state; count = p.count + 1 }))) ≡ Ok q → (e.participation ≡ p.count + 1) × (record { state = fired a e.transition e.delivered p.state; count = p.count + 1 } ≡ q)
      each true told true is = (eqb-true e.participation (p.count + 1) told, same_Ok _ q is)
      each true told false is = absurd (err-ok (NotEnabled number) q is)
      each false told d is = absurd (err-ok Gap q is)

-- what an atom did in a record, as replay takes it
abbrev pub play : AtomDefinition → ℕ → ℕ → Option Entry → Position → Result Position ReplayFault
play a number saved part p = option_map_or (λ e. replay_entry a saved number e p) part (Ok p)

-- what it then did to the position: it counts on or stays; a limit from the new count on passes it over, and one up to the old count takes it alike
pub record Took (a : AtomDefinition) (number saved : ℕ) (part : Option Entry) (p q : Position) : Type 0 where
  pub grows : p.count ≤ q.count
  pub passed : saved ≤ p.count → (limit : ℕ) (x : Position) → q.count ≤ limit → play a number limit part x ≡ Ok x
  pub alike : (limit : ℕ) → saved ≤ limit → limit ≤ p.count → play a number limit part p ≡ Ok q
  pub fits : is_well_formed a ≡ true → Fits a p.state → Fits a q.state

module _ (a : AtomDefinition) (number saved : ℕ) where
  took-entry : (e : Entry) (p q : Position) → replay_entry a saved number e p ≡ Ok q → Took a number saved (Some e) p q
  took-entry e p q taken = each (nat_le e.participation saved) refl taken
    where
      each : (b : Bool) → nat_le e.participation saved ≡ b → cond b (Ok p) (onward a number e p) ≡ Ok q → Took a number saved (Some e) p q
      each true told is =
          let same : p ≡ q = same_Ok p q is in
          let behind : e.participation ≤ saved = leb-true e.participation saved told in
          let counts : p.count ≡ q.count = ap (λ (x : Position). x.count) same in
          record {
            grows = omega arith;
            passed = λ from limit x reaches. passes-entry a number e x limit (omega arith);
            alike = λ limit above below. passes-entry a number e p limit (omega arith) ∙ is;
            fits = λ formed fits. subst (λ (x : Position). Fits a x.state) same fits;
          }
      each false told is =
          let past : saved < e.participation = leb-false e.participation saved told in
          let fires = onward-ok a number e p q is in
          let next : e.participation ≡ p.count + 1 = fires.0 in
          let counts : p.count + 1 ≡ q.count = ap (λ (x : Position). x.count) fires.1 in
          record {
            grows = omega arith;
            passed = λ from limit x reaches. passes-entry a number e x limit (omega arith);
            alike = λ limit above below. goes-onward a number e p limit (omega arith) ∙ is;
            fits = λ formed fits. subst (λ (x : Position). Fits a x.state) fires.1 (fired-fits a e.transition e.delivered p.state formed fits);
          }

  pub took : (part : Option Entry) (p q : Position) → play a number saved part p ≡ Ok q → Took a number saved part p q
  took None p q taken =
      let same : p ≡ q = same_Ok p q taken in
      let counts : p.count ≡ q.count = ap (λ (x : Position). x.count) same in
      record {
        grows = omega arith;
        passed = λ from limit x reaches. refl;
        alike = λ limit above below. taken;
        fits = λ formed fits. subst (λ (x : Position). Fits a x.state) same fits;
      }
  took (Some e) p q taken = took-entry e p q taken

module _ (a : AtomDefinition) (atom : ℕ) where
  -- replay of two lists is that of the first, and then of the second
  pub replay-append : (saved : ℕ) (xs ys : List FiredFields) (p : Position) → replay a atom saved (xs ++ ys) p ≡ ok_then (replay a atom saved xs p) (λ q. replay a atom saved ys q)
  replay-append saved [] ys p = refl
  replay-append saved (x ∷ xs) ys p = each (replay-append saved xs ys) (replay_record a atom saved x p)
    where
      each : ((q : Position) → replay a atom saved (xs ++ ys) q ≡ ok_then (replay a atom saved xs q) (λ r. replay a atom saved ys r)) → (o : Result Position ReplayFault) → ok_then o (λ q. replay a atom saved (xs ++ ys) q) ≡ ok_then (ok_then o (λ q. replay a atom saved xs q)) (λ r. replay a atom saved ys r)
      each behind (Ok q) = behind q
      each behind (Err fault) = refl

  -- if replay of a list is Ok, it goes over a position after the first record
  replay-between : (saved : ℕ) (x : FiredFields) (xs : List FiredFields) (p e : Position) → replay a atom saved (x ∷ xs) p ≡ Ok e → (q : Position) × Took a x.number saved (part_of atom x) p q × (replay a atom saved xs q ≡ Ok e)
  replay-between saved x xs p e taken = each (replay_record a atom saved x p) refl taken
    where
      each : (o : Result Position ReplayFault) → replay_record a atom saved x p ≡ o → ok_then o (λ q. replay a atom saved xs q) ≡ Ok e → (q : Position) × Took a x.number saved (part_of atom x) p q × (replay a atom saved xs q ≡ Ok e)
      each (Ok q) told is = (q, took a x.number saved (part_of atom x) p q told, is)
      each (Err fault) told is = absurd (err-ok fault e is)

  -- replay never counts back, and keeps a state in its atom
  pub replay-grows : (saved : ℕ) (xs : List FiredFields) (p e : Position) → replay a atom saved xs p ≡ Ok e → p.count ≤ e.count
  replay-grows saved [] p e taken =
      let counts : p.count ≡ e.count = ap (λ (x : Position). x.count) (same_Ok p e taken) in
      omega arith
  replay-grows saved (x ∷ xs) p e taken =
      let between = replay-between saved x xs p e taken in
      omega (arith, between.1.grows, replay-grows saved xs between.0 e between.2)

  pub replay-fits : (saved : ℕ) (xs : List FiredFields) (p e : Position) → is_well_formed a ≡ true → Fits a p.state → replay a atom saved xs p ≡ Ok e → Fits a e.state
  replay-fits saved [] p e formed fits taken = subst (λ (x : Position). Fits a x.state) (same_Ok p e taken) fits
  replay-fits saved (x ∷ xs) p e formed fits taken =
      let between = replay-between saved x xs p e taken in
      replay-fits saved xs between.0 e formed (between.1.fits formed fits) between.2

  -- what replay went over, it passes over from a limit of the count after it on
  pub replay-passed : (saved limit : ℕ) (xs : List FiredFields) (p q z : Position) → saved ≤ p.count → replay a atom saved xs p ≡ Ok q → q.count ≤ limit → replay a atom limit xs z ≡ Ok z
  replay-passed saved limit [] p q z from taken reaches = refl
  replay-passed saved limit (x ∷ xs) p q z from taken reaches =
      let between = replay-between saved x xs p q taken in
      let m : Position = between.0 in
      let grows : p.count ≤ m.count = between.1.grows in
      let more : m.count ≤ q.count = replay-grows saved xs m q between.2 in
      ap (λ o. ok_then o (λ r. replay a atom limit xs r)) (between.1.passed from limit z (omega arith)) ∙
      replay-passed saved limit xs m q z (omega arith) between.2 reaches

  -- and takes alike from a limit of at most the count before it
  pub replay-alike : (saved limit : ℕ) (xs : List FiredFields) (p q : Position) → saved ≤ limit → limit ≤ p.count → replay a atom saved xs p ≡ Ok q → replay a atom limit xs p ≡ Ok q
  replay-alike saved limit [] p q above below taken = taken
  replay-alike saved limit (x ∷ xs) p q above below taken =
      let between = replay-between saved x xs p q taken in
      let m : Position = between.0 in
      let grows : p.count ≤ m.count = between.1.grows in
      ap (λ o. ok_then o (λ r. replay a atom limit xs r)) (between.1.alike limit above below) ∙
      replay-alike saved limit xs m q above (omega arith) between.2

  -- so it may begin anew anywhere on its way
  pub replay-anew : (saved : ℕ) (xs ys : List FiredFields) (p q e : Position) → saved ≤ p.count → replay a atom saved xs p ≡ Ok q → replay a atom saved (xs ++ ys) p ≡ Ok e → replay_from a atom q (xs ++ ys) ≡ Ok e
  replay-anew saved xs ys p q e from first whole =
      let grows : p.count ≤ q.count = replay-grows saved xs p q first in
      let rest : replay a atom saved ys q ≡ Ok e = sym (ap (λ o. ok_then o (λ r. replay a atom saved ys r)) first) ∙ sym (replay-append saved xs ys p) ∙ whole in
      let same : q.count ≤ q.count = omega arith in
      replay-append q.count xs ys q ∙
      ap (λ o. ok_then o (λ r. replay a atom q.count ys r)) (replay-passed saved q.count xs p q q from first same) ∙
      replay-alike saved q.count ys q e (omega arith) same rest

  -- records that the saved state includes are passed over
  pub replay-behind : (saved : ℕ) (xs ys : List FiredFields) (p : Position) → list_all (is_included atom saved) xs ≡ true → replay a atom saved (xs ++ ys) p ≡ replay a atom saved ys p
  replay-behind saved [] ys p all = refl
  replay-behind saved (x ∷ xs) ys p all =
      let parts = and_parts (is_included atom saved x) (list_all (is_included atom saved) xs) all in
      ap (λ o. ok_then o (λ q. replay a atom saved (xs ++ ys) q)) (each (part_of atom x) parts.0) ∙ replay-behind saved xs ys p parts.1
    where
      each : (part : Option Entry) → option_map_or (λ e. nat_le e.participation saved) part true ≡ true → play a x.number saved part p ≡ Ok p
      each None behind = refl
      each (Some e) behind = passes-entry a x.number e p saved (leb-true e.participation saved behind)
