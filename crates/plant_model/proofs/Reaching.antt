-- What stands on the ports of atoms, connector by connector.
use Rattle.std.proofs.Common.{◌≡◌, ◌⊎◌, inl, inr, ⊎_elim, ℕ, zero, suc, ◌+◌, ◌*◌, ◌==◌, ◌<◌, ◌≤◌, ◌%◌, ◌^◌, refl, sym, ◌∙◌, ap, subst, add-one, List, [], ◌∷◌, ◌++◌, length, drop, get_or, nat_lt, arith, Bool, true, false, cond, eqb, ◌&&◌, w64, AllPairs, Contains}
use Rattle.std.specs.Prelude.{Option, Some, None, slice_get, bit_or}
use Rattle.std.specs.Option.{option_map_or}
use Rattle.std.proofs.lemmas.Bool.{and_right, cases_eq, cases_lt, false≢true, le-ltb, lt-ltb, or_left, or_right}
use Rattle.std.proofs.lemmas.List.{append-nil, append_assoc, drop_all, drop_more}
use Rattle.std.proofs.lemmas.List.Elements.{Contains-append_cases, Contains-append_left, Contains-append_right, Contains-get_or}
use Rattle.std.proofs.lemmas.List.Kept.{AllPairs-cons}
use Rattle.std.proofs.lemmas.Nat.Bits.{bit_at_set_other, bit_at_set_same}
use Rattle.std.proofs.lemmas.Option.{same_Some, slice_get-get_or}
use Rattle.connector_tree.specs.Tree.{leaves}
use Rattle.connector_tree.specs.declared.tree.Port.{Port}
use Rattle.priority_filter.specs.Members.{has_bit}
use Rattle.plant_model.specs.Plant.{WireDefinition}
use Rattle.plant_model.specs.Reach.{has_leaf_at, is_at, leaves_at, leaves_from, at_port, has_row}
use Rattle.plant_model.specs.declared.reach.ConnectorLeaf.{ConnectorLeaf}
use Rattle.plant_model.proofs.FirstFault.{both}
use Rattle.plant_model.proofs.Membership.{here, here-or-later, later}
use Rattle.plant_model.proofs.OfInteractions.{pairs-append}

-- ---- the leaves of the connectors

-- the leaves of one wire more
pub wire-added : (place i : ℕ) (wires : List WireDefinition) (w : WireDefinition) → i < length wires → slice_get wires i ≡ Some w
    → (so_far now all : List ConnectorLeaf) → now ≡ so_far ++ leaves_from place i 0 (leaves w.connector) → so_far ++ leaves_at place i (drop i wires) ≡ all
    → now ++ leaves_at place (i + 1) (drop (i + 1) wires) ≡ all
wire-added place i wires w within there so_far now all added before =
    ap (λ xs. xs ++ leaves_at place (i + 1) (drop (i + 1) wires)) added ∙
    append_assoc so_far (leaves_from place i 0 (leaves w.connector)) (leaves_at place (i + 1) (drop (i + 1) wires)) ∙
    ap (λ xs. so_far ++ xs) (sym from-here) ∙ before
  where
    from-here : leaves_at place i (drop i wires) ≡ leaves_from place i 0 (leaves w.connector) ++ leaves_at place (i + 1) (drop (i + 1) wires)
    from-here =
        ap (leaves_at place i) (drop_more wires i w within ∙ ap (λ v. v ∷ drop (i + 1) wires) (same_Some (get_or wires i w) w (sym (slice_get-get_or wires i w within) ∙ there))) ∙
        ap (λ k. leaves_from place i 0 (leaves w.connector) ++ leaves_at place k (drop (i + 1) wires)) (sym (add-one i))

pub wires-over : (place i : ℕ) (wires : List WireDefinition) (so_far all : List ConnectorLeaf) → length wires ≤ i → so_far ++ leaves_at place i (drop i wires) ≡ all → so_far ≡ all
wires-over place i wires so_far all past is =
    sym (append-nil so_far) ∙ ap (λ xs. so_far ++ leaves_at place i xs) (sym (drop_all i wires past)) ∙ is

-- ---- a word of those that pass a test, one number after the other

pub below-more : (k n : ℕ) → (k ≡ n → ⊥) → nat_lt k (n + 1) ≡ nat_lt k n
below-more k n other =
    ⊎_elim
    (λ below. lt-ltb k (n + 1) (omega (arith, below)) ∙ sym (lt-ltb k n below))
    (λ past. le-ltb k (n + 1) (omega (arith, past, other)) ∙ sym (le-ltb k n past))
    (cases_lt k n)

module _ (word n : ℕ) (test : ℕ → Bool) (so_far : (k : ℕ) → has_bit word k ≡ (nat_lt k n && test k)) where
  elsewhere : (k : ℕ) → (k ≡ n → ⊥) → has_bit word k ≡ (nat_lt k (n + 1) && test k)
  elsewhere k other = so_far k ∙ ap (λ b. b && test k) (sym (below-more k n other))

  pub bit-passed : test n ≡ false → (k : ℕ) → has_bit word k ≡ (nat_lt k (n + 1) && test k)
  bit-passed fails k =
      ⊎_elim
      (λ same. so_far k ∙ and_right (nat_lt k n) (test k) (ap test same ∙ fails) ∙ sym (and_right (nat_lt k (n + 1)) (test k) (ap test same ∙ fails)))
      (elsewhere k) (cases_eq k n)

  pub bit-added : n < 64 → test n ≡ true → (k : ℕ) → has_bit (bit_or word (1 * 2 ^ n % 2 ^ 64)) k ≡ (nat_lt k (n + 1) && test k)
  bit-added low passes k =
      ⊎_elim
      (λ same.
      ap (has_bit (bit_or word (1 * 2 ^ n % 2 ^ 64))) same ∙ ap (λ x. eqb x 1) (bit_at_set_same w64 word n low) ∙
      sym (ap (λ j. nat_lt j (n + 1) && test j) same ∙ both (lt-ltb n (n + 1) (omega arith)) passes))
      (λ other. ap (λ x. eqb x 1) (bit_at_set_other w64 word n low k other) ∙ elsewhere k other)
      (cases_eq k n)

-- past the last number none passes
pub bits-over : (word n : ℕ) (test : ℕ → Bool) → ((k : ℕ) → has_bit word k ≡ (nat_lt k n && test k)) → ((k : ℕ) → n ≤ k → test k ≡ false) → (k : ℕ) → has_bit word k ≡ test k
bits-over word n test so_far none k =
    so_far k ∙
    ⊎_elim (λ below. ap (λ b. b && test k) (lt-ltb k n below)) (λ past. and_right (nat_lt k n) (test k) (none k past) ∙ sym (none k past)) (cases_lt k n)

-- ---- what is listed

-- one leaf stands before another: at an earlier connector, or before it at the same
abbrev pub IsEarlierLeaf : ConnectorLeaf → ConnectorLeaf → Type 0
IsEarlierLeaf l m = (l.connector < m.connector) ⊎ ((l.connector ≡ m.connector) × (l.leaf < m.leaf))

-- the leaves that are listed of a connector are its own, at the place
from-leaves : (place connector j : ℕ) (ps : List Port) (l : ConnectorLeaf) → Contains (leaves_from place connector j ps) l
    → (k : ℕ) × (l ≡ record { connector = connector; leaf = j + k }) × (option_map_or (λ p. at_port p == place) (slice_get ps k) false ≡ true)
from-leaves place connector j [] l at = absurd (omega (arith, at.1))
from-leaves place connector j (p ∷ ps) l at = each (from-leaves place connector (suc j) ps l) (at_port p == place) refl at
  where
    next : (k : ℕ) × (l ≡ record { connector = connector; leaf = suc j + k }) × (option_map_or (λ q. at_port q == place) (slice_get ps k) false ≡ true)
        → (k : ℕ) × (l ≡ record { connector = connector; leaf = j + k }) × (option_map_or (λ q. at_port q == place) (slice_get (p ∷ ps) k) false ≡ true)
    next found =
        let e : suc j + found.0 ≡ j + suc found.0 = omega arith in
        (suc found.0, found.1 ∙ ap (λ m. record { connector = connector; leaf = m }) e, found.2)

    each : (Contains (leaves_from place connector (suc j) ps) l → (k : ℕ) × (l ≡ record { connector = connector; leaf = suc j + k }) × (option_map_or (λ q. at_port q == place) (slice_get ps k) false ≡ true))
        → (b : Bool) → (at_port p == place) ≡ b → Contains (cond b (record { connector = connector; leaf = j } ∷ leaves_from place connector (suc j) ps) (leaves_from place connector (suc j) ps)) l
        → (k : ℕ) × (l ≡ record { connector = connector; leaf = j + k }) × (option_map_or (λ q. at_port q == place) (slice_get (p ∷ ps) k) false ≡ true)
    each behind true told in_it =
        let e : j ≡ j + zero = omega arith in
        ⊎_elim
        (λ is. (zero, sym is ∙ ap (λ m. record { connector = connector; leaf = m }) e, told))
        (λ more. next (behind more))
        (here-or-later (record { connector = connector; leaf = j }) (leaves_from place connector (suc j) ps) l in_it)
    each behind false told in_it = next (behind in_it)

to-leaves : (place connector j : ℕ) (ps : List Port) (k : ℕ) → option_map_or (λ p. at_port p == place) (slice_get ps k) false ≡ true → Contains (leaves_from place connector j ps) (record { connector = connector; leaf = j + k })
to-leaves place connector j [] k at = absurd (false≢true at)
to-leaves place connector j (p ∷ ps) zero at =
    let e : j ≡ j + zero = omega arith in
    let listed = leaves_from place connector (suc j) ps in
    subst (λ b. Contains (cond b (record { connector = connector; leaf = j } ∷ listed) listed) (record { connector = connector; leaf = j + zero })) (sym at)
    (subst (λ m. Contains (record { connector = connector; leaf = j } ∷ listed) (record { connector = connector; leaf = m })) e (here (record { connector = connector; leaf = j }) listed))
to-leaves place connector j (p ∷ ps) (suc k) at =
    let e : suc j + k ≡ j + suc k = omega arith in
    each (subst (λ m. Contains (leaves_from place connector (suc j) ps) (record { connector = connector; leaf = m })) e (to-leaves place connector (suc j) ps k at)) (at_port p == place)
  where
    listed : List ConnectorLeaf
    listed = leaves_from place connector (suc j) ps

    its : ConnectorLeaf
    its = record { connector = connector; leaf = j + suc k }

    each : Contains listed its → (b : Bool) → Contains (cond b (record { connector = connector; leaf = j } ∷ listed) listed) its
    each behind true = later (record { connector = connector; leaf = j }) listed its behind
    each behind false = behind

-- so are those of wires that are numbered from one on
from-wires : (place k : ℕ) (ws : List WireDefinition) (l : ConnectorLeaf) → Contains (leaves_at place k ws) l
    → (j : ℕ) × (l.connector ≡ k + j) × (option_map_or (λ w. option_map_or (λ p. at_port p == place) (slice_get (leaves w.connector) l.leaf) false) (slice_get ws j) false ≡ true)
from-wires place k [] l at = absurd (omega (arith, at.1))
from-wires place k (w ∷ ws) l at =
    ⊎_elim
    (λ own.
    let found = from-leaves place k 0 (leaves w.connector) l own in
    let e : k ≡ k + zero = omega arith in
    let leaf : found.0 ≡ l.leaf = omega (arith, ap (λ (x : ConnectorLeaf). x.leaf) found.1) in
    (zero, ap (λ (x : ConnectorLeaf). x.connector) found.1 ∙ e, ap (λ m. option_map_or (λ p. at_port p == place) (slice_get (leaves w.connector) m) false) (sym leaf) ∙ found.2))
    (λ more.
    let found = from-wires place (suc k) ws l more in
    let e : suc k + found.0 ≡ k + suc found.0 = omega arith in
    (suc found.0, found.1 ∙ e, found.2))
    (Contains-append_cases (leaves_from place k 0 (leaves w.connector)) (leaves_at place (suc k) ws) l at)

to-wires : (place k : ℕ) (ws : List WireDefinition) (j leaf : ℕ) → option_map_or (λ w. option_map_or (λ p. at_port p == place) (slice_get (leaves w.connector) leaf) false) (slice_get ws j) false ≡ true
    → Contains (leaves_at place k ws) (record { connector = k + j; leaf = leaf })
to-wires place k [] j leaf at = absurd (false≢true at)
to-wires place k (w ∷ ws) zero leaf at =
    let e : k ≡ k + zero = omega arith in
    let e' : 0 + leaf ≡ leaf = omega arith in
    Contains-append_left (leaves_from place k 0 (leaves w.connector)) (leaves_at place (suc k) ws) (record { connector = k + zero; leaf = leaf })
    (subst (λ m. Contains (leaves_from place k 0 (leaves w.connector)) (record { connector = m; leaf = leaf })) e
    (subst (λ m. Contains (leaves_from place k 0 (leaves w.connector)) (record { connector = k; leaf = m })) e' (to-leaves place k 0 (leaves w.connector) leaf at)))
to-wires place k (w ∷ ws) (suc j) leaf at =
    let e : suc k + j ≡ k + suc j = omega arith in
    Contains-append_right (leaves_from place k 0 (leaves w.connector)) (leaves_at place (suc k) ws) (record { connector = k + suc j; leaf = leaf })
    (subst (λ m. Contains (leaves_at place (suc k) ws) (record { connector = m; leaf = leaf })) e (to-wires place (suc k) ws j leaf at))

module _ (place : ℕ) (wires : List WireDefinition) (l : ConnectorLeaf) where
  -- what is listed are exactly the leaves that stand at the place
  pub listed-leaf : Contains (leaves_at place 0 wires) l → has_leaf_at wires place l ≡ true
  listed-leaf at =
      let found = from-wires place 0 wires l at in
      let e : l.connector ≡ found.0 = omega (arith, found.1) in
      ap (λ j. option_map_or (λ w. option_map_or (λ p. at_port p == place) (slice_get (leaves w.connector) l.leaf) false) (slice_get wires j) false) e ∙ found.2

  pub leaf-listed : has_leaf_at wires place l ≡ true → Contains (leaves_at place 0 wires) l
  leaf-listed at =
      let e : 0 + l.connector ≡ l.connector = omega arith in
      subst (λ m. Contains (leaves_at place 0 wires) (record { connector = m; leaf = l.leaf })) e (to-wires place 0 wires l.connector l.leaf at)

  -- and the connector of each has its bit
  pub leaf-is-at : has_leaf_at wires place l ≡ true → is_at wires place l.connector ≡ true
  leaf-is-at at = each (slice_get wires l.connector) at
    where
      inside : (ps : List Port) (k : ℕ) → option_map_or (λ p. at_port p == place) (slice_get ps k) false ≡ true → has_row ps place ≡ true
      inside [] k there = absurd (false≢true there)
      inside (p ∷ ps) zero there = or_left (at_port p == place) (has_row ps place) there
      inside (p ∷ ps) (suc k) there = or_right (at_port p == place) (has_row ps place) (inside ps k there)

      each : (o : Option WireDefinition) → option_map_or (λ w. option_map_or (λ p. at_port p == place) (slice_get (leaves w.connector) l.leaf) false) o false ≡ true → option_map_or (λ w. has_row (leaves w.connector) place) o false ≡ true
      each None there = absurd (false≢true there)
      each (Some w) there = inside (leaves w.connector) l.leaf there

-- they stand in order, so each stands there once
leaves-rise : (place connector j : ℕ) (ps : List Port) → AllPairs IsEarlierLeaf (leaves_from place connector j ps)
leaves-rise place connector j [] = λ m n d less within. absurd (omega (arith, within))
leaves-rise place connector j (p ∷ ps) = each (leaves-rise place connector (suc j) ps) (at_port p == place)
  where
    listed : List ConnectorLeaf
    listed = leaves_from place connector (suc j) ps

    its : ConnectorLeaf
    its = record { connector = connector; leaf = j }

    each : AllPairs IsEarlierLeaf listed → (b : Bool) → AllPairs IsEarlierLeaf (cond b (its ∷ listed) listed)
    each rest true =
        AllPairs-cons IsEarlierLeaf its listed
        (λ k d within.
        let found = from-leaves place connector (suc j) ps (get_or listed k d) (Contains-get_or listed k d within) in
        inr (sym (ap (λ (x : ConnectorLeaf). x.connector) found.1), omega (arith, ap (λ (x : ConnectorLeaf). x.leaf) found.1)))
        rest
    each rest false = rest

wires-rise : (place k : ℕ) (ws : List WireDefinition) → AllPairs IsEarlierLeaf (leaves_at place k ws)
wires-rise place k [] = λ m n d less within. absurd (omega (arith, within))
wires-rise place k (w ∷ ws) =
    pairs-append IsEarlierLeaf (leaves_from place k 0 (leaves w.connector)) (leaves_at place (suc k) ws) (leaves-rise place k 0 (leaves w.connector)) (wires-rise place (suc k) ws)
    (λ l m first second.
    let own = from-leaves place k 0 (leaves w.connector) l first in
    let later_one = from-wires place (suc k) ws m second in
    inl (omega (arith, ap (λ (x : ConnectorLeaf). x.connector) own.1, later_one.1)))

pub listed-in-order : (place : ℕ) (wires : List WireDefinition) → AllPairs IsEarlierLeaf (leaves_at place 0 wires)
listed-in-order place wires = wires-rise place 0 wires
