-- What each interaction of a plant is.
use Rattle.std.proofs.Common.{◌≡◌, ◌≢◌, ⊎_elim, ℕ, zero, suc, ◌+◌, ◌==◌, ◌<◌, ◌≤◌, refl, sym, ◌∙◌, ap, subst, List, [], ◌∷◌, ◌++◌, length, filter, get_or, Contains, AllPairs, nat_lt, ◌^◌, arith, Bool, true, false, cond, not, ◌&&◌}
use Rattle.std.specs.Prelude.{Option, Some, None, slice_get, option_map}
use Rattle.std.specs.List.{list_all, list_any, range_with_len, All}
use Rattle.std.specs.List.Sorted.{IsStrictlyIncreasing}
use Rattle.std.specs.Option.{option_map_or}
use Rattle.std.proofs.lemmas.Bool.{and_parts, or_parts, cases_lt, eq-eqb, eqb-true, false≢true, ltb-true, ltb-false, leb-true}
use Rattle.std.proofs.lemmas.List.{length-map, get_or_default}
use Rattle.std.proofs.lemmas.List.Elements.{Contains-append_left, Contains-append_right, Contains-append_cases, Contains-get_or}
use Rattle.std.proofs.lemmas.List.Kept.{AllPairs-cons, AllPairs-filter}
use Rattle.std.proofs.lemmas.Option.{slice_get_past, same_Some, none-some}
use Rattle.petri_atom.specs.Definition.{AtomDefinition}
use Rattle.petri_atom.specs.Expression.{all_variables}
use Rattle.connector_tree.specs.Faults as tree
use Rattle.connector_tree.specs.Masks.{interactions_of, chosen, is_set, ports_of}
use Rattle.connector_tree.specs.PortSets.{is_port_set}
use Rattle.connector_tree.specs.Tree.{Tree, leaves}
use Rattle.connector_tree.specs.declared.tree.Port.{Port}
use Rattle.connector_tree.specs.declared.tree.TheConstants.{MAX_LEAVES}
use Rattle.connector_tree.proofs.Algebra.{never_empty}
use Rattle.connector_tree.proofs.Sound.{sound}
use Rattle.plant_model.specs.Choice.{Interaction, by_atom, interaction_by, interactions_from, interactions_of_connector, plant_interactions}
use Rattle.plant_model.specs.Laws.{IsInteractionOf, IsWithinLimits}
use Rattle.plant_model.specs.Plant.{PlantDefinition, WireDefinition}
use Rattle.plant_model.specs.Rules.{early_fault, fault_of, fault_of_count, fault_of_order, fault_of_wires, first_broken, first_of, first_fault_in, is_known_export, is_known_input, is_known_port, is_within_limits, late_fault, names_known, wire_fault}
use Rattle.plant_model.specs.declared.fault.SystemFault.{SystemFault}
use Rattle.plant_model.specs.declared.fault.SystemFault.TheVariants.{BadWire, Limit}
use Rattle.plant_model.specs.declared.fault.WireFault.{WireFault}
use Rattle.plant_model.specs.declared.limits.TheConstants.{MAX_ATOMS, MAX_INTERACTIONS, MAX_WIRES}
use Rattle.plant_model.proofs.Membership.{here, here-or-later, later, all-in, from-filter, to-filter, from-map}
use Rattle.plant_model.proofs.Ports.{few_ports}
use Rattle.plant_model.proofs.TreeRules.{early_trees, first_none, second_none, tree_sound}

-- ---- the rules that its wire keeps

-- where no element has a fault, none has one at its place
pub none-told : {X F : Type 0} (tell : ℕ → X → Option F) (n : ℕ) (xs : List X) → first_fault_in tell n xs ≡ None → (k : ℕ) (x : X) → slice_get xs k ≡ Some x → tell (n + k) x ≡ None
none-told tell n [] none k x there = absurd (none-some x there)
none-told tell n (y ∷ ys) none zero x there =
    let e : n ≡ n + zero = omega arith in
    ap (tell (n + zero)) (sym (same_Some y x there)) ∙ ap (λ j. tell j y) (sym e) ∙ first_none (tell n y) (first_fault_in tell (suc n) ys) none
none-told tell n (y ∷ ys) none (suc k) x there =
    let e : n + suc k ≡ suc n + k = omega arith in
    ap (λ j. tell j x) e ∙ none-told tell (suc n) ys (second_none (tell n y) (first_fault_in tell (suc n) ys) none) k x there

untold : (k : ℕ) (o : Option WireFault) → option_map (BadWire k) o ≡ None → o ≡ None
untold k None none = refl
untold k (Some f) none = absurd (cc)

-- a wire that breaks no rule has ports and variables that are there
unbroken : (name ports variables targets values : Bool) → first_broken name ports variables targets values ≡ None → (ports ≡ true) × (variables ≡ true)
unbroken true ports variables targets values none = absurd (cc)
unbroken false false variables targets values none = absurd (cc)
unbroken false true false targets values none = absurd (cc)
unbroken false true true targets values none = (refl, refl)

-- a number of interactions that is no fault is within the limit
pub count-kept : (n : ℕ) → fault_of_count n ≡ None → n ≤ MAX_INTERACTIONS
count-kept n none = ltb-false MAX_INTERACTIONS n (each (nat_lt MAX_INTERACTIONS n) none)
  where
    each : (b : Bool) → cond b (Some Limit) None ≡ None → b ≡ false
    each true never = absurd (cc)
    each false none = refl

module _ (plant : PlantDefinition) (valid : fault_of plant ≡ None) where
  early : early_fault plant ≡ None
  early = first_none (early_fault plant) (first_of (late_fault plant) (fault_of_order plant)) valid

  late-rules : late_fault plant ≡ None
  late-rules = first_none (late_fault plant) (fault_of_order plant) (second_none (early_fault plant) (first_of (late_fault plant) (fault_of_order plant)) valid)

  late : fault_of_wires plant ≡ None
  late = first_none (fault_of_wires plant) (fault_of_count (length (plant_interactions plant))) late-rules

  -- the limits
  limits-kept : (b : Bool) (o : Option SystemFault) → cond (not b) (Some Limit) o ≡ None → b ≡ true
  limits-kept true o none = refl
  limits-kept false o none = absurd (cc)

  pub within-limits : IsWithinLimits plant
  within-limits =
      let kept : is_within_limits plant ≡ true = limits-kept (is_within_limits plant) _ early in
      let counts = and_parts _ _ (and_parts _ _ (and_parts _ _ kept).0).0 in
      let atoms = and_parts _ _ counts.0 in
      record {
        some_atom = ltb-true 0 (length plant.atoms) atoms.0;
        atoms = leb-true (length plant.atoms) MAX_ATOMS atoms.1;
        wires = leb-true (length plant.wires) MAX_WIRES counts.1;
        interactions = count-kept (length (plant_interactions plant)) (second_none (fault_of_wires plant) (fault_of_count (length (plant_interactions plant))) late-rules);
      }

  module _ (k : ℕ) (w : WireDefinition) (there : slice_get plant.wires k ≡ Some w) where
    kept : (list_all (is_known_port plant.atoms) (leaves w.connector) ≡ true) × ((list_all (all_variables (is_known_export plant.atoms (leaves w.connector))) w.guards && list_all (names_known plant.atoms (leaves w.connector)) w.transfers && list_all (is_known_input plant.atoms (leaves w.connector)) w.inputs) ≡ true)
    kept =
        unbroken _ _ _ _ _
        (untold (0 + k) _ (none-told (wire_fault plant.atoms plant.wires) 0 plant.wires late k w there))

    -- its leaves are ports of the plant
    pub known-leaves : list_all (is_known_port plant.atoms) (leaves w.connector) ≡ true
    known-leaves = kept.0

    -- the variables that its transfers name are there
    pub known-transfers : list_all (names_known plant.atoms (leaves w.connector)) w.transfers ≡ true
    known-transfers = (and_parts _ _ (and_parts _ _ kept.1).0).1

    -- and those of its inputs
    pub known-inputs : list_all (is_known_input plant.atoms (leaves w.connector)) w.inputs ≡ true
    known-inputs = (and_parts _ _ kept.1).1

    -- its tree is a connector
    pub sound-tree : tree.IsSound w.connector
    sound-tree = sound w.connector (tree_sound 0 plant.wires (early_trees plant early) k w there)

-- ---- ports

-- the atom of a known port is there
pub known-atom : (atoms : List AtomDefinition) (p : Port) → is_known_port atoms p ≡ true → p.atom < length atoms
known-atom atoms p known = ⊎_elim
    (λ within. within)
    (λ past. absurd (false≢true (sym (ap (λ o. option_map_or (λ a. nat_lt p.port (length a.ports)) o false) (slice_get_past atoms p.atom past)) ∙ known)))
    (cases_lt p.atom (length atoms))

from-chosen : (mask j : ℕ) (ps : List Port) (p : Port) → Contains (chosen mask j ps) p → Contains ps p
from-chosen mask j [] p at = at
from-chosen mask j (q ∷ qs) p at = each (from-chosen mask (j + 1) qs p) (is_set mask j) at
  where
    each : (Contains (chosen mask (j + 1) qs) p → Contains qs p) → (b : Bool) → Contains (cond b (q ∷ chosen mask (j + 1) qs) (chosen mask (j + 1) qs)) p → Contains (q ∷ qs) p
    each behind true in_it = ⊎_elim
        (λ is. subst (Contains (q ∷ qs)) is (here q qs))
        (λ more. later q qs p (behind more))
        (here-or-later q (chosen mask (j + 1) qs) p in_it)
    each behind false in_it = later q qs p (behind in_it)

-- the ports by atom are those of atoms below the bound
from-by_atom : (n : ℕ) (ps : List Port) (p : Port) → Contains (by_atom n ps) p → Contains ps p × (p.atom < n)
from-by_atom zero ps p at = absurd (omega (arith, at.1))
from-by_atom (suc n) ps p at = ⊎_elim
    (λ before. let rest = from-by_atom n ps p before in (rest.0, omega (arith, rest.1)))
    (λ last. let kept = from-filter (λ q. q.atom == n) ps p last in (kept.0, omega (arith, eqb-true p.atom n kept.1)))
    (Contains-append_cases (by_atom n ps) (filter (λ q. q.atom == n) ps) p at)

pub to-by_atom : (n : ℕ) (ps : List Port) (p : Port) → Contains ps p → p.atom < n → Contains (by_atom n ps) p
to-by_atom zero ps p at below = absurd (omega (arith, below))
to-by_atom (suc n) ps p at below = ⊎_elim
    (λ less. Contains-append_left (by_atom n ps) (filter (λ q. q.atom == n) ps) p (to-by_atom n ps p at less))
    (λ past.
    let e : p.atom ≡ n = omega (arith, below, past) in
    Contains-append_right (by_atom n ps) (filter (λ q. q.atom == n) ps) p (to-filter (λ q. q.atom == n) ps p at (eq-eqb p.atom n e)))
    (cases_lt p.atom n)

-- ---- pairs

module _ {X : Type 0} where
  -- each two elements of two lists, and one of each
  pub pairs-append : (R : X → X → Type 0) (xs ys : List X) → AllPairs R xs → AllPairs R ys → ((x y : X) → Contains xs x → Contains ys y → R x y) → AllPairs R (xs ++ ys)
  pairs-append R [] ys first second across = second
  pairs-append R (x ∷ xs) ys first second across =
      AllPairs-cons R x (xs ++ ys) head
      (pairs-append R xs ys (λ i j d less within. first (suc i) (suc j) d (omega (arith, less)) (omega (arith, within))) second (λ y z in_it behind. across y z (later x xs y in_it) behind))
    where
      head : All (R x) (xs ++ ys)
      head k d within =
          let z : X = get_or (xs ++ ys) k d in
          ⊎_elim
          (λ in_it. subst (R x) (in_it.2) (subst (R x) (get_or_default xs in_it.0 d z in_it.1) (first zero (suc in_it.0) d (omega arith) (omega (arith, in_it.1)))))
          (λ behind. across x z (here x xs) behind)
          (Contains-append_cases xs ys z (Contains-get_or (xs ++ ys) k d within))

  -- what two elements are to each other may follow from that they are in the list
  pub pairs-weaker : (R S : X → X → Type 0) (xs : List X) → AllPairs R xs → ((x y : X) → Contains xs x → Contains xs y → R x y → S x y) → AllPairs S xs
  pairs-weaker R S xs all weaker i j d less within =
      weaker (get_or xs i d) (get_or xs j d) (Contains-get_or xs i d (omega (arith, less, within))) (Contains-get_or xs j d within) (all i j d less within)

-- two ports are of different atoms, and of rising ones
abbrev AreApart : Port → Port → Type 0
AreApart p q = p.atom ≢ q.atom

abbrev AreRising : Port → Port → Type 0
AreRising p q = p.atom < q.atom

-- no atom of the list is that of a port before it
not-among : (n : ℕ) (ps : List Port) → list_any (λ m. n == m) (tree.atoms ps) ≡ false → (p : Port) → Contains ps p → n ≢ p.atom
not-among n [] none p at same = absurd (omega (arith, at.1))
not-among n (q ∷ qs) none p at same =
    let parts = or_parts (n == q.atom) (list_any (λ m. n == m) (tree.atoms qs)) none in
    ⊎_elim
    (λ is. false≢true (sym parts.0 ∙ eq-eqb n q.atom (same ∙ ap (λ (x : Port). x.atom) (sym is))))
    (λ more. not-among n qs parts.1 p more same)
    (here-or-later q qs p at)

pub apart : (ps : List Port) → tree.has_repeat (tree.atoms ps) ≡ false → AllPairs AreApart ps
apart [] none = λ i j d less within. absurd (omega (arith, within))
apart (p ∷ ps) none =
    let parts = or_parts (list_any (λ m. p.atom == m) (tree.atoms ps)) (tree.has_repeat (tree.atoms ps)) none in
    AllPairs-cons AreApart p ps (λ k d within. not-among p.atom ps parts.0 (get_or ps k d) (Contains-get_or ps k d within)) (apart ps parts.1)

-- ports of one atom in such a list are the same
pub same-port : (ps : List Port) → tree.has_repeat (tree.atoms ps) ≡ false → (p q : Port) → Contains ps p → Contains ps q → p.atom ≡ q.atom → p ≡ q
same-port [] none p q first second same = absurd (omega (arith, first.1))
same-port (r ∷ rs) none p q first second same =
    let parts = or_parts (list_any (λ m. r.atom == m) (tree.atoms rs)) (tree.has_repeat (tree.atoms rs)) none in
    ⊎_elim
    (λ p_here. ⊎_elim
    (λ q_here. sym p_here ∙ q_here)
    (λ q_later. absurd (not-among r.atom rs parts.0 q q_later (ap (λ (x : Port). x.atom) p_here ∙ same)))
    (here-or-later r rs q second))
    (λ p_later. ⊎_elim
    (λ q_here. absurd (not-among r.atom rs parts.0 p p_later (ap (λ (x : Port). x.atom) q_here ∙ sym same)))
    (λ q_later. same-port rs parts.1 p q p_later q_later same)
    (here-or-later r rs q second))
    (here-or-later r rs p first)

apart-chosen : (mask j : ℕ) (ps : List Port) → AllPairs AreApart ps → AllPairs AreApart (chosen mask j ps)
apart-chosen mask j [] all = all
apart-chosen mask j (p ∷ ps) all =
    each (apart-chosen mask (j + 1) ps (λ i k d less within. all (suc i) (suc k) d (omega (arith, less)) (omega (arith, within)))) (is_set mask j)
  where
    head : All (AreApart p) (chosen mask (j + 1) ps)
    head k d within =
        let q : Port = get_or (chosen mask (j + 1) ps) k d in
        let at = from-chosen mask (j + 1) ps q (Contains-get_or (chosen mask (j + 1) ps) k d within) in
        subst (AreApart p) at.2 (all zero (suc at.0) q (omega arith) (omega (arith, at.1)))

    each : AllPairs AreApart (chosen mask (j + 1) ps) → (b : Bool) → AllPairs AreApart (cond b (p ∷ chosen mask (j + 1) ps) (chosen mask (j + 1) ps))
    each rest true = AllPairs-cons AreApart p (chosen mask (j + 1) ps) head rest
    each rest false = rest

-- by atom they rise
rise-by_atom : (n : ℕ) (ps : List Port) → AllPairs AreApart ps → AllPairs AreRising (by_atom n ps)
rise-by_atom zero ps all = λ i j d less within. absurd (omega (arith, within))
rise-by_atom (suc n) ps all =
    let own = λ (q : Port). q.atom == n in
    pairs-append AreRising (by_atom n ps) (filter own ps) (rise-by_atom n ps all)
    (pairs-weaker AreApart AreRising (filter own ps) (AllPairs-filter AreApart own ps all)
    (λ p q first second differ. absurd (differ (eqb-true p.atom n (from-filter own ps p first).1 ∙ sym (eqb-true q.atom n (from-filter own ps q second).1)))))
    (λ p q before last. omega (arith, (from-by_atom n ps p before).1, eqb-true q.atom n (from-filter own ps q last).1))

increasing : (ps : List Port) → AllPairs AreRising ps → IsStrictlyIncreasing (tree.atoms ps)
increasing ps rising k within =
    let d : Port = record { atom = 0; port = 0 } in
    let long = length-map ps (λ (p : Port). p.atom) in
    let less = rising k (k + 1) d (omega arith) (omega (arith, within, long)) in
    omega (arith, less, atom-at ps k d (omega (arith, within, long)), atom-at ps (k + 1) d (omega (arith, within, long)))
  where
    atom-at : (qs : List Port) (i : ℕ) (d : Port) → i < length qs → get_or (tree.atoms qs) i 0 ≡ (get_or qs i d).atom
    atom-at [] i d below = absurd (omega (arith, below))
    atom-at (q ∷ qs) zero d below = refl
    atom-at (q ∷ qs) (suc i) d below = atom-at qs i d (omega (arith, below))

-- ---- interactions

-- an interaction of wires is one of a connector among them
pub from-wires : (n k : ℕ) (ws : List WireDefinition) (i : Interaction) → Contains (interactions_from n k ws) i → (j : ℕ) × (w : WireDefinition) × (slice_get ws j ≡ Some w) × Contains (interactions_of_connector n (k + j) w.connector) i
from-wires n k [] i at = absurd (omega (arith, at.1))
from-wires n k (w ∷ ws) i at =
    let e : k ≡ k + zero = omega arith in
    ⊎_elim
    (λ first. (zero, w, refl, subst (λ m. Contains (interactions_of_connector n m w.connector) i) e first))
    (λ more.
    let rest = from-wires n (suc k) ws i more in
    let e' : suc k + rest.0 ≡ k + suc rest.0 = omega arith in
    (suc rest.0, rest.1, rest.2, subst (λ m. Contains (interactions_of_connector n m rest.1.connector) i) e' rest.3))
    (Contains-append_cases (interactions_of_connector n k w.connector) (interactions_from n (suc k) ws) i at)

-- a mask that is an interaction of a sound connector has a port
some-chosen : (t : Tree) (mask : ℕ) → tree.IsSound t → Contains (interactions_of t) mask → (p : Port) × Contains (ports_of t mask) p
some-chosen t mask whole at = each (ports_of t mask) refl
  where
    each : (ps : List Port) → ps ≡ ports_of t mask → (p : Port) × Contains ps p
    each [] none =
        let is = (from-filter (λ m. is_port_set t (ports_of t m)) (range_with_len 0 (2 ^ length (leaves t))) mask at).1 in
        absurd (false≢true (sym (never_empty t whole.none_empty) ∙ ap (is_port_set t) none ∙ is))
    each (p ∷ ps) some = (p, here p ps)

-- an interaction of a plant is of the wire with its connector's number, its mask is one of that connector, and its ports are those of the mask whose atoms are there
pub of-wire : (plant : PlantDefinition) (i : Interaction) → Contains (plant_interactions plant) i
    → (w : WireDefinition) × (slice_get plant.wires i.connector ≡ Some w) × Contains (interactions_of w.connector) i.mask × (by_atom (length plant.atoms) (ports_of w.connector i.mask) ≡ i.ports)
of-wire plant i at =
    let n : ℕ = length plant.atoms in
    let found = from-wires n 0 plant.wires i at in
    let w : WireDefinition = found.1 in
    let made = from-map (interaction_by n (0 + found.0) (leaves w.connector)) (interactions_of w.connector) i found.3 in
    let e : 0 + found.0 ≡ found.0 = omega arith in
    let number : i.connector ≡ found.0 = ap (λ (x : Interaction). x.connector) (sym made.2) ∙ e in
    let mask : made.0 ≡ i.mask = ap (λ (x : Interaction). x.mask) made.2 in (
      w,
      ap (slice_get plant.wires) number ∙ found.2,
      subst (Contains (interactions_of w.connector)) mask made.1,
      ap (λ m. by_atom n (ports_of w.connector m)) (sym mask) ∙ ap (λ (x : Interaction). x.ports) made.2,
    )

module _ (plant : PlantDefinition) (valid : fault_of plant ≡ None) (i : Interaction) (at : Contains (plant_interactions plant) i) where
  pub interaction-of : IsInteractionOf plant i
  interaction-of =
      let n : ℕ = length plant.atoms in
      let is = of-wire plant i at in
      let w : WireDefinition = is.0 in
      let ports : by_atom n (ports_of w.connector i.mask) ≡ i.ports = is.3 in
      let whole = sound-tree plant valid i.connector w is.1 in
      let from : (p : Port) → Contains i.ports p → Contains (ports_of w.connector i.mask) p = λ p in_it. (from-by_atom n (ports_of w.connector i.mask) p (subst (λ ps. Contains ps p) (sym ports) in_it)).0 in
      let to : (p : Port) → Contains (ports_of w.connector i.mask) p → Contains i.ports p = λ p in_mask. subst (λ ps. Contains ps p) ports (to-by_atom n (ports_of w.connector i.mask) p in_mask (known-atom plant.atoms p (all-in (is_known_port plant.atoms) (leaves w.connector) (known-leaves plant valid i.connector w is.1) p (from-chosen i.mask 0 (leaves w.connector) p in_mask)))) in
      let leaf : (p : Port) → Contains i.ports p → Contains (leaves w.connector) p = λ p in_it. from-chosen i.mask 0 (leaves w.connector) p (from p in_it) in
      let one = some-chosen w.connector i.mask whole is.2 in
      let in_it = to one.0 one.1 in
      record {
        wire = w;
        there = is.1;
        mask = is.2;
        some = omega (arith, in_it.1);
        few = subst (λ ps. length ps ≤ MAX_LEAVES) ports (omega (arith, few_ports n i.mask (leaves w.connector), whole.few_leaves));
        rising = subst (λ ps. IsStrictlyIncreasing (tree.atoms ps)) ports (increasing (by_atom n (ports_of w.connector i.mask)) (rise-by_atom n (ports_of w.connector i.mask) (apart-chosen i.mask 0 (leaves w.connector) (apart (leaves w.connector) whole.distinct_atoms))));
        known = λ p in_ports. all-in (is_known_port plant.atoms) (leaves w.connector) (known-leaves plant valid i.connector w is.1) p (leaf p in_ports);
        of_mask = λ p. (from p, to p);
        of_connector = leaf;
      }
