-- What is sound in an atom stays so in one with more parts.
use Rattle.std.proofs.Common.{◌≡◌, ◌∙◌, refl, ap, ℕ, ◌≤◌, true, ◌&&◌, List, arith}
use Rattle.std.specs.Prelude.{nat_lt}
use Rattle.std.specs.List.{list_all}
use Rattle.std.proofs.lemmas.Bool.{and_parts, and_from, ltb-true, lt-ltb}
use Rattle.petri_atom.specs.Expression.{Tree, number, variable, negation, operation, all_variables, has_variables_below}
use Rattle.petri_atom.specs.Definition.{PortDefinition, TransitionDefinition, UpdateDefinition, are_below, exports_few, exports_once, exports_known, has_known_variables, has_known_numbers_in, is_small_transition, has_each_place_once, has_source_and_target}
use Rattle.petri_atom.proofs.Fitting.{all_weaker}
use Rattle.atom_lines.specs.Sound.{is_sound_port, is_sound_transition}

-- below a bound, and so below a larger one
still_below : (m n k : ℕ) → m ≤ n → nat_lt k m ≡ true → nat_lt k n ≡ true
still_below m n k more below = lt-ltb k n (omega (arith, ltb-true k m below, more))

pub are_below-more : (m n : ℕ) (ks : List ℕ) → m ≤ n → are_below m ks ≡ true → are_below n ks ≡ true
are_below-more m n ks more = all_weaker (λ k. nat_lt k m) (λ k. nat_lt k n) (λ k. still_below m n k more) ks

-- a bound of variables is a test of each variable
pub variables_below-all : (bound : ℕ) (e : Tree ℕ) → has_variables_below bound e ≡ all_variables (λ v. nat_lt v bound) e
variables_below-all bound (number n) = refl
variables_below-all bound (variable v) = refl
variables_below-all bound (negation e) = variables_below-all bound e
variables_below-all bound (operation o e f) =
    ap (λ b. b && has_variables_below bound f) (variables_below-all bound e) ∙ ap (λ b. all_variables (λ v. nat_lt v bound) e && b) (variables_below-all bound f)

variables_below-more : (m n : ℕ) (e : Tree ℕ) → m ≤ n → has_variables_below m e ≡ true → has_variables_below n e ≡ true
variables_below-more m n (number k) more below = refl
variables_below-more m n (variable v) more below = still_below m n v more below
variables_below-more m n (negation e) more below = variables_below-more m n e more below
variables_below-more m n (operation o e f) more below =
    let parts = and_parts (has_variables_below m e) (has_variables_below m f) below in
    and_from _ _ (variables_below-more m n e more parts.0) (variables_below-more m n f more parts.1)

known_update-more : (m n : ℕ) (u : UpdateDefinition) → m ≤ n → has_known_variables m u ≡ true → has_known_variables n u ≡ true
known_update-more m n u more known =
    let parts = and_parts (nat_lt u.variable m) (has_variables_below m u.value) known in
    and_from _ _ (still_below m n u.variable more parts.0) (variables_below-more m n u.value more parts.1)

-- with more variables, the ports are still sound
pub sound_ports-more : (m n : ℕ) (ps : List PortDefinition) → m ≤ n → list_all (is_sound_port m) ps ≡ true → list_all (is_sound_port n) ps ≡ true
sound_ports-more m n ps more =
    all_weaker (is_sound_port m) (is_sound_port n)
    (λ p sound. let parts = and_parts (exports_few p && exports_once p) (exports_known m p) sound in
    and_from _ _ parts.0 (are_below-more m n p.exports more parts.1))
    ps

known_numbers-more : (p q r p' q' r' : ℕ) (t : TransitionDefinition) → p ≤ p' → q ≤ q' → r ≤ r' → has_known_numbers_in p q r t ≡ true → has_known_numbers_in p' q' r' t ≡ true
known_numbers-more p q r p' q' r' t ports places variables known =
    let updates = and_parts (nat_lt t.port p && are_below q t.sources && are_below q t.targets && has_variables_below r t.guard) (list_all (has_known_variables r) t.updates) known in
    let guard = and_parts (nat_lt t.port p && are_below q t.sources && are_below q t.targets) (has_variables_below r t.guard) updates.0 in
    let targets = and_parts (nat_lt t.port p && are_below q t.sources) (are_below q t.targets) guard.0 in
    let sources = and_parts (nat_lt t.port p) (are_below q t.sources) targets.0 in
    and_from _ _ (and_from _ _ (and_from _ _ (and_from _ _ (still_below p p' t.port ports sources.0)
    (are_below-more q q' t.sources places sources.1)) (are_below-more q q' t.targets places targets.1))
    (variables_below-more r r' t.guard variables guard.1))
    (all_weaker (has_known_variables r) (has_known_variables r') (λ u. known_update-more r r' u variables) t.updates updates.1)

-- with more parts, the transitions are still sound
pub sound_transitions-more : (p q r p' q' r' : ℕ) (ts : List TransitionDefinition) → p ≤ p' → q ≤ q' → r ≤ r' → list_all (is_sound_transition p q r) ts ≡ true → list_all (is_sound_transition p' q' r') ts ≡ true
sound_transitions-more p q r p' q' r' ts ports places variables =
    all_weaker (is_sound_transition p q r) (is_sound_transition p' q' r')
    (λ t sound. let ends = and_parts (is_small_transition t && has_each_place_once t && has_known_numbers_in p q r t) (has_source_and_target t) sound in
    let known = and_parts (is_small_transition t && has_each_place_once t) (has_known_numbers_in p q r t) ends.0 in
    and_from _ _ (and_from _ _ known.0 (known_numbers-more p q r p' q' r' t ports places variables known.1)) ends.1)
    ts
