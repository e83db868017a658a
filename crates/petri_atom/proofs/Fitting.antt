use Rattle.std.proofs.Common.{◌≡◌, ℕ, zero, suc, ◌≤◌, ℤ, Bool, true, false, cond, not, ◌&&◌, ◌||◌, ltb, refl, sym, ◌∙◌, ap, List, [], ◌∷◌, length, map, Option, Some, None, subst, ⊎_elim}
use Rattle.std.specs.Prelude.{slice_get, slice_set}
use Rattle.std.specs.List.{list_all}
use Rattle.std.specs.Option.{option_map_or}
use Rattle.std.proofs.lemmas.Bool.{leb-true, and_parts, and_from, cases_lt, le-ltb, false≢true, false_from_ne_true}
use Rattle.std.proofs.lemmas.List.{length-set, length-map}
use Rattle.std.proofs.lemmas.Option.{none-some}
use Rattle.petri_atom.specs.Local.{Local, has, is_in, set_below, moved, Row, delivered_value}
use Rattle.petri_atom.specs.Definition.{AtomDefinition, TransitionDefinition, UpdateDefinition, Fits, fired, fired_by, exports_of, updated, delivered_to, is_well_formed, fault_of, is_within_limits, has_each_once, has_known_numbers, has_known_numbers_in, exports_known, has_sources_and_targets, are_below}
use Rattle.petri_atom.specs.Atom.{definition_of}
use Rattle.petri_atom.specs.Parts.{port_of}
use Rattle.petri_atom.specs.Transition.{transition_of}
use Rattle.petri_atom.specs.declared.atom.Atom.{Atom}
use Rattle.petri_atom.specs.declared.fault.AtomFault.TheVariants.{Limit, Twice, Unknown, NoPlace}
use Rattle.petri_atom.proofs.Sets.{has-above, set_below-lt, has-set_below}
use Rattle.petri_atom.proofs.Markings.{list_all-at}

-- updates and deliveries give no new values to variables that are not there
length-updated : (us : List UpdateDefinition) (values : List ℤ) → length (updated us values) ≡ length values
length-updated [] values = refl
length-updated (u ∷ us) values = length-updated us _ ∙ length-set values u.variable _

length-assigned : (o : Option ℤ) (values : List ℤ) (v : ℕ) → length (option_map_or (slice_set values v) o values) ≡ length values
length-assigned None values v = refl
length-assigned (Some x) values v = length-set values v x

length-delivered_to : (d : Row) (j : ℕ) (vs : List ℕ) (values : List ℤ) → length (delivered_to d j vs values) ≡ length values
length-delivered_to d j [] values = refl
length-delivered_to d j (v ∷ vs) values =
    length-delivered_to d (suc j) vs _ ∙ length-assigned (delivered_value d j) values v

-- a number past a bound is in no list of numbers below it
pub not_in : (bound : ℕ) (ks : List ℕ) (k : ℕ) → are_below bound ks ≡ true → bound ≤ k → is_in ks k ≡ false
not_in bound ks k below past =
    false_from_ne_true (is_in ks k)
    (λ inside. false≢true (sym (le-ltb k bound past) ∙ list_all-at (λ j. ltb j bound) ks k below inside))

-- a marking gains no place past a bound that all targets are below
pub has-moved : (m bound : ℕ) (ss ts : List ℕ) (k : ℕ) → are_below bound ts ≡ true → bound ≤ k → has m k ≡ false → has (moved m ss ts) k ≡ false
unfolding moved
has-moved m bound ss ts k below past unmarked =
    let test : ℕ → Bool = λ p. (has m p && not (is_in ss p)) || is_in ts p in
    let none : test k ≡ false = ap (λ b. (b && not (is_in ss k)) || is_in ts k) unmarked ∙ not_in bound ts k below past in
    ⊎_elim (λ h. has-set_below 64 test k h ∙ none) (λ h. has-above (set_below 64 test) 64 k (set_below-lt 64 test) h)
    (cases_lt k 64)

-- what each passes, the one with a number passes
pub all_get : {X : Type 0} (f : X → Bool) (xs : List X) (i : ℕ) (x : X) → list_all f xs ≡ true → slice_get xs i ≡ Some x → f x ≡ true
all_get f [] i x all there = absurd (cc)
all_get f (y ∷ ys) zero x all there =
    let same : y ≡ x = cc in
    ap f (sym same) ∙ (and_parts (f y) (list_all f ys) all).0
all_get f (y ∷ ys) (suc i) x all there = all_get f ys i x (and_parts (f y) (list_all f ys) all).1 there

-- what passes one test passes a weaker one
pub all_weaker : {X : Type 0} (f g : X → Bool) → ((x : X) → f x ≡ true → g x ≡ true) → (xs : List X) → list_all f xs ≡ true → list_all g xs ≡ true
all_weaker f g weaker [] all = refl
all_weaker f g weaker (x ∷ xs) all =
    let parts = and_parts (f x) (list_all f xs) all in
    and_from (g x) (list_all g xs) (weaker x parts.0) (all_weaker f g weaker xs parts.1)

-- an atom that breaks no rule is well formed
pub formed-when-sound : (a : AtomDefinition) → fault_of a ≡ None → is_well_formed a ≡ true
formed-when-sound a sound =
    each (is_within_limits a) (has_each_once a) (has_known_numbers a) (has_sources_and_targets a) sound
  where
    each : (w x y z : Bool) → cond (not w) (Some Limit) (cond (not x) (Some Twice) (cond (not y) (Some Unknown) (cond (not z) (Some NoPlace) None))) ≡ None → (w && x && y && z) ≡ true
    each true true true true e = refl
    each true true true false e = absurd (none-some NoPlace (sym e))
    each true true false z e = absurd (none-some Unknown (sym e))
    each true false y z e = absurd (none-some Twice (sym e))
    each false x y z e = absurd (none-some Limit (sym e))

-- a well-formed atom keeps the limit of transitions
pub few_transitions : (a : AtomDefinition) → is_well_formed a ≡ true → length a.transitions ≤ 128
few_transitions a formed =
    let known = and_parts (is_within_limits a && has_each_once a && has_known_numbers a) (has_sources_and_targets a) formed in
    let once = and_parts (is_within_limits a && has_each_once a) (has_known_numbers a) known.0 in
    let limits = and_parts (is_within_limits a) (has_each_once a) once.0 in
    leb-true (length a.transitions) 128 (and_parts _ _ (and_parts _ _ (and_parts _ _ limits.0).0).0).1

-- and the limit of ports
pub few_ports : (a : AtomDefinition) → is_well_formed a ≡ true → length a.ports ≤ 32
few_ports a formed =
    let known = and_parts (is_within_limits a && has_each_once a && has_known_numbers a) (has_sources_and_targets a) formed in
    let once = and_parts (is_within_limits a && has_each_once a) (has_known_numbers a) known.0 in
    let limits = and_parts (is_within_limits a) (has_each_once a) once.0 in
    leb-true (length a.ports) 32 (and_parts _ _ (and_parts _ _ (and_parts _ _ (and_parts _ _ limits.0).0).0).0).1

-- and the limit of variables
pub few_variables : (a : AtomDefinition) → is_well_formed a ≡ true → length a.variables ≤ 16
few_variables a formed =
    let known = and_parts (is_within_limits a && has_each_once a && has_known_numbers a) (has_sources_and_targets a) formed in
    let once = and_parts (is_within_limits a && has_each_once a) (has_known_numbers a) known.0 in
    let limits = and_parts (is_within_limits a) (has_each_once a) once.0 in
    leb-true (length a.variables) 16 (and_parts _ _ (and_parts _ _ (and_parts _ _ (and_parts _ _ (and_parts _ _ limits.0).0).0).0).0).1

-- each number in the transitions of a well-formed atom is known
pub known_numbers : (a : AtomDefinition) → is_well_formed a ≡ true → list_all (has_known_numbers_in (length a.ports) (length a.places) (length a.variables)) a.transitions ≡ true
known_numbers a formed =
    let parts = and_parts (is_within_limits a && has_each_once a && has_known_numbers a) (has_sources_and_targets a) formed in
    let known = and_parts (is_within_limits a && has_each_once a) (has_known_numbers a) parts.0 in
    (and_parts (list_all (exports_known (length a.variables)) a.ports) _ known.1).1

-- each transition has a port that is there
pub known_ports : (a : AtomDefinition) → is_well_formed a ≡ true → list_all (λ t. ltb t.port (length a.ports)) a.transitions ≡ true
known_ports a formed =
    all_weaker _ _
    (λ t known. (and_parts _ _ (and_parts _ _ (and_parts _ _ (and_parts _ _ known).0).0).0).0) a.transitions (known_numbers a formed)

-- so in an atom as it is kept
pub known_ports_of : (a : Atom) → list_all (λ t. ltb t.port (length a.ports.items)) (map transition_of a.transitions.items) ≡ true
known_ports_of a =
    subst (λ n. list_all (λ t. ltb t.port n) (map transition_of a.transitions.items) ≡ true) (length-map a.ports.items port_of) (known_ports (definition_of a) a.well_formed)

-- the targets of a transition whose numbers are known are places
known_targets : (ports places variables : ℕ) (t : TransitionDefinition) → has_known_numbers_in ports places variables t ≡ true → are_below places t.targets ≡ true
known_targets ports places variables t known =
    (and_parts _ _ (and_parts _ _ (and_parts _ _ known).0).0).1

-- the state after a firing fits the atom that the state before fitted
pub fired-fits : (a : AtomDefinition) (n : ℕ) (d : Row) (state : Local) → is_well_formed a ≡ true → Fits a state → Fits a (fired a n d state)
fired-fits a n d state formed fits =
    each (slice_get a.transitions n) (λ t there. all_get _ a.transitions n t (known_numbers a formed) there)
  where
    known : TransitionDefinition → Bool
    known = has_known_numbers_in (length a.ports) (length a.places) (length a.variables)

    each : (o : Option TransitionDefinition) → ((t : TransitionDefinition) → o ≡ Some t → known t ≡ true) → Fits a (option_map_or (λ t. fired_by t (exports_of a t.port) d state) o state)
    each None all = fits
    each (Some t) all =
        record {
          variables = length-updated t.updates _ ∙ length-delivered_to d 0 (exports_of a t.port) state.values ∙ fits.variables;
          places = λ k past. has-moved state.marking (length a.places) t.sources t.targets k (known_targets _ _ _ t (all t refl)) past (fits.places k past);
        }
