-- What is told of connectors, port by port and atom by atom.
use Rattle.std.proofs.Common.{◌≡◌, ◌⊎◌, inl, inr, ℕ, ◌-◌, ◌^◌, ◌<◌, ◌≤◌, ◌==◌, refl, sym, ◌∙◌, ap, List, [], length, Bool, true, false, cond, not, ◌||◌, arith, bit_and, bit_or, w32, set, get_or-set_other, ⊎_elim}
use Rattle.std.specs.Prelude.{Option, Some, None, slice_get, slice_index_or}
use Rattle.std.specs.Int.{trailing_zeros}
use Rattle.std.specs.Option.{option_map_or}
use Rattle.std.proofs.lemmas.Bool.{cases_eq, cases_lt, eq-eqb, eqb-true, ne_eqb, false≢true, or_from, or_parts, true≢false}
use Rattle.std.proofs.lemmas.Nat.{pow_pos}
use Rattle.std.proofs.lemmas.Nat.Bits.{bit_at-trailing_zeros, bit_at_clear_other, bit_at_clear_same}
use Rattle.std.proofs.lemmas.Option.{slice_get_past, slice_get_within}
use Rattle.petri_atom.specs.Local.{has}
use Rattle.petri_atom.specs.declared.parts.TheConstants.{MAX_PORTS}
use Rattle.petri_atom.proofs.Sets.{has-above, has-or}
use Rattle.connector_tree.specs.Masks.{is_set}
use Rattle.connector_tree.specs.Tree.{leaves}
use Rattle.connector_tree.specs.declared.tree.Port.{Port}
use Rattle.priority_filter.specs.Members.{has_bit}
use Rattle.plant_model.specs.Reach.{at_port, has_row, row_of_port}
use Rattle.plant_model.specs.Plant.{WireDefinition}
use Rattle.plant_model.specs.Reach.{IsPortReach, has_leaf_at, is_at, leaves_at}
use Rattle.plant_model.specs.declared.reach.ConnectorLeaf.{ConnectorLeaf}
use Rattle.plant_model.specs.declared.reach.PortReach.{PortReach}
use Rattle.plant_model.proofs.Membership.{entry-in, in-entry}
use Rattle.plant_model.proofs.Reaching.{leaf-is-at, leaf-listed, listed-leaf}
use Rattle.plant_model.proofs.WithoutLowest.{fewer-less, same-rest}
use Rattle.step_core.specs.Leaves.{AreLeaves, count_of, is_many, is_none}
use Rattle.step_core.specs.Told.{IsRecounted, IsTold}
use Rattle.step_core.specs.declared.changes.Changes.{Changes}
use Rattle.step_core.specs.declared.leaves.Leaves.{Leaves}

-- ---- words of leaves by any number of transitions at each port

-- the leaf of the connector is there, and the number at its port passes the test
abbrev pub is_leaf_by : (ℕ → Bool) → List WireDefinition → (Port → ℕ) → ℕ → ℕ → Bool
is_leaf_by test wires count connector leaf =
    option_map_or (λ w. option_map_or (λ p. test (count p)) (slice_get (leaves w.connector) leaf) false) (slice_get wires connector) false

-- the words have the bits of the leaves that offer nothing, and of those that offer more than one transition, by these numbers
pub record AreLeavesBy (wires : List WireDefinition) (count : Port → ℕ) (l : Leaves) : Type 0 where
  pub off : (connector leaf : ℕ) → is_set (slice_index_or l.off connector 0) leaf ≡ is_leaf_by is_none wires count connector leaf
  pub many : (connector leaf : ℕ) → is_set (slice_index_or l.many connector 0) leaf ≡ is_leaf_by is_many wires count connector leaf

module _ (wires : List WireDefinition) where
  same-by : (test : ℕ → Bool) (c d : Port → ℕ) → ((p : Port) → c p ≡ d p) → (k leaf : ℕ) → is_leaf_by test wires c k leaf ≡ is_leaf_by test wires d k leaf
  same-by test c d same k leaf = each (slice_get wires k)
    where
      inside : (o : Option Port) → option_map_or (λ p. test (c p)) o false ≡ option_map_or (λ p. test (d p)) o false
      inside None = refl
      inside (Some p) = ap test (same p)

      each : (o : Option WireDefinition) → option_map_or (λ w. option_map_or (λ p. test (c p)) (slice_get (leaves w.connector) leaf) false) o false
          ≡ option_map_or (λ w. option_map_or (λ p. test (d p)) (slice_get (leaves w.connector) leaf) false) o false
      each None = refl
      each (Some w) = inside (slice_get (leaves w.connector) leaf)

  -- the words are right for all that counts alike
  pub leaves-alike : (c d : Port → ℕ) (l : Leaves) → ((p : Port) → c p ≡ d p) → AreLeavesBy wires c l → AreLeavesBy wires d l
  leaves-alike c d l same right = record {
    off = λ k leaf. right.off k leaf ∙ same-by is_none c d same k leaf;
    many = λ k leaf. right.many k leaf ∙ same-by is_many c d same k leaf;
  }

  pub leaves-by : (counts : List (List ℕ)) (l : Leaves) → AreLeaves wires counts l → AreLeavesBy wires (count_of counts) l
  leaves-by counts l right = record { off = right.off; many = right.many }

  pub leaves-of : (counts : List (List ℕ)) (l : Leaves) → AreLeavesBy wires (count_of counts) l → AreLeaves wires counts l
  leaves-of counts l right = record { off = right.off; many = right.many }

  -- ---- what is told, one change after the other

  pub none-told : (c : Port → ℕ) (s : Changes) → IsTold wires c c s s
  none-told c s = record {
    not_dirty = λ k out. out;
    not_heavy = λ k out. out;
    same_off = λ k out w leaf p there found. refl;
    same_count = λ k out w leaf p there found. refl;
    dirty_within = λ k past out. out;
    heavy_within = λ k past out. out;
  }

  pub told-alike : (c d e f : Port → ℕ) (s t : Changes) → ((p : Port) → c p ≡ e p) → ((p : Port) → d p ≡ f p) → IsTold wires c d s t → IsTold wires e f s t
  told-alike c d e f s t from to told = record {
    not_dirty = told.not_dirty;
    not_heavy = told.not_heavy;
    same_off = λ k out w leaf p there found. ap is_none (sym (to p)) ∙ told.same_off k out w leaf p there found ∙ ap is_none (from p);
    same_count = λ k out w leaf p there found. sym (to p) ∙ told.same_count k out w leaf p there found ∙ from p;
    dirty_within = told.dirty_within;
    heavy_within = told.heavy_within;
  }

  pub told-then : (c d e : Port → ℕ) (s t u : Changes) → IsTold wires c d s t → IsTold wires d e t u → IsTold wires c e s u
  told-then c d e s t u first second = record {
    not_dirty = λ k out. first.not_dirty k (second.not_dirty k out);
    not_heavy = λ k out. first.not_heavy k (second.not_heavy k out);
    same_off = λ k out w leaf p there found. second.same_off k out w leaf p there found ∙ first.same_off k (second.not_dirty k out) w leaf p there found;
    same_count = λ k out w leaf p there found. second.same_count k out w leaf p there found ∙ first.same_count k (second.not_heavy k out) w leaf p there found;
    dirty_within = λ k past out. second.dirty_within k past (first.dirty_within k past out);
    heavy_within = λ k past out. second.heavy_within k past (first.heavy_within k past out);
  }

  -- some more connectors that are there are to be judged again
  module _ (c : Port → ℕ) (s t : Changes) (more : ℕ) (dirty : t.dirty ≡ bit_or s.dirty more) (heavy : t.heavy ≡ s.heavy) where
    bits : (k : ℕ) → has_bit t.dirty k ≡ (has_bit s.dirty k || has_bit more k)
    bits k = ap (λ w. has_bit w k) dirty ∙ has-or s.dirty more k

    pub more-told : (k : ℕ) → has_bit t.dirty k ≡ false → has_bit more k ≡ false
    more-told k out = (or_parts (has_bit s.dirty k) (has_bit more k) (sym (bits k) ∙ out)).1

    pub told-more : ((k : ℕ) → length wires ≤ k → has_bit more k ≡ false) → IsTold wires c c s t
    told-more within = record {
      not_dirty = λ k out. (or_parts (has_bit s.dirty k) (has_bit more k) (sym (bits k) ∙ out)).0;
      not_heavy = λ k out. ap (λ w. has_bit w k) (sym heavy) ∙ out;
      same_off = λ k out w leaf p there found. refl;
      same_count = λ k out w leaf p there found. refl;
      dirty_within = λ k past out. bits k ∙ or_from (has_bit s.dirty k) (has_bit more k) out (within k past);
      heavy_within = λ k past out. ap (λ w. has_bit w k) heavy ∙ out;
    }

  -- ---- what stands on a port

  module _ (place : ℕ) where
    at-leaf : (k leaf : ℕ) (w : WireDefinition) (p : Port) → slice_get wires k ≡ Some w → slice_get (leaves w.connector) leaf ≡ Some p → has_leaf_at wires place (record { connector = k; leaf = leaf }) ≡ (at_port p == place)
    at-leaf k leaf w p there found =
        ap (λ o. option_map_or (λ (v : WireDefinition). option_map_or (λ q. at_port q == place) (slice_get (leaves v.connector) leaf) false) o false) there ∙
        ap (λ o. option_map_or (λ q. at_port q == place) o false) found

    -- a connector past the last has nothing there
    none-at-past : (k : ℕ) → length wires ≤ k → is_at wires place k ≡ false
    none-at-past k past = ap (λ o. option_map_or (λ (w : WireDefinition). has_row (leaves w.connector) place) o false) (slice_get_past wires k past)

    -- what is listed of it is there
    pub there-listed : (r : PortReach) → IsPortReach wires place r → (n : ℕ) (l : ConnectorLeaf) → slice_get r.leaves.items n ≡ Some l → has_leaf_at wires place l ≡ true
    there-listed r reach n l there = listed-leaf place wires l (entry-in (leaves_at place 0 wires) n l (ap (λ xs. slice_get xs n) (sym reach.leaves) ∙ there))

    -- a leaf that is there has small numbers
    pub small-leaf : (few : ℕ) → ((k : ℕ) (w : WireDefinition) → slice_get wires k ≡ Some w → length (leaves w.connector) ≤ few) → (l : ConnectorLeaf) → has_leaf_at wires place l ≡ true → (l.connector < length wires) × (l.leaf < few)
    small-leaf few short l at = each (slice_get wires l.connector) refl
      where
        inside : (w : WireDefinition) → slice_get wires l.connector ≡ Some w → (o : Option Port) → slice_get (leaves w.connector) l.leaf ≡ o → (l.connector < length wires) × (l.leaf < few)
        inside w there None none =
            absurd (true≢false (sym at ∙ ap (λ o. option_map_or (λ (v : WireDefinition). option_map_or (λ q. at_port q == place) (slice_get (leaves v.connector) l.leaf) false) o false) there ∙
            ap (λ o. option_map_or (λ q. at_port q == place) o false) none))
        inside w there (Some p) found = (slice_get_within wires l.connector w there, omega (arith, slice_get_within (leaves w.connector) l.leaf p found, short l.connector w there))

        each : (o : Option WireDefinition) → slice_get wires l.connector ≡ o → (l.connector < length wires) × (l.leaf < few)
        each None none = absurd (true≢false (sym at ∙ ap (λ o. option_map_or (λ (v : WireDefinition). option_map_or (λ q. at_port q == place) (slice_get (leaves v.connector) l.leaf) false) o false) none))
        each (Some w) there = inside w there (slice_get (leaves w.connector) l.leaf) refl

  -- ---- one port of an atom

  -- that number of transitions was offered at a port of an atom, and this one is now; all other ports offer as many as before
  module _ (atom port place : ℕ) (low : port < MAX_PORTS) (is : place ≡ row_of_port atom port) (c d : Port → ℕ) (before after : ℕ)
      (was : (p : Port) → p.atom ≡ atom → p.port ≡ port → c p ≡ before) (now : (p : Port) → p.atom ≡ atom → p.port ≡ port → d p ≡ after)
      (others : (p : Port) → ((p.atom ≡ atom) × (p.port ≡ port) → ⊥) → d p ≡ c p) where
    on-port : (p : Port) → at_port p ≡ place → (p.atom ≡ atom) × (p.port ≡ port)
    on-port p same = (omega (arith, same, is, low), omega (arith, same, is, low))

    off-port : (p : Port) → (at_port p ≡ place → ⊥) → d p ≡ c p
    off-port p other = others p (λ its. other (ap (λ n. row_of_port n p.port) its.0 ∙ ap (row_of_port atom) its.1 ∙ sym is))

    -- words in which the bits of the leaves on that port are brought up to date
    pub word-told : (test : ℕ → Bool) (old new : ℕ → ℕ → Bool) (r : PortReach) → IsPortReach wires place r
        → ((n : ℕ) (l : ConnectorLeaf) → slice_get r.leaves.items n ≡ Some l → old l.connector l.leaf ≡ test before → new l.connector l.leaf ≡ test after)
        → ((k leaf : ℕ) → ((n : ℕ) (l : ConnectorLeaf) → slice_get r.leaves.items n ≡ Some l → (l.connector ≡ k) × (l.leaf ≡ leaf) → ⊥) → new k leaf ≡ old k leaf)
        → ((k leaf : ℕ) → old k leaf ≡ is_leaf_by test wires c k leaf) → (k leaf : ℕ) → new k leaf ≡ is_leaf_by test wires d k leaf
    word-told test old new r reach put kept right k leaf = each (slice_get wires k) refl
      where
        away : has_leaf_at wires place (record { connector = k; leaf = leaf }) ≡ false → new k leaf ≡ old k leaf
        away none = kept k leaf (λ n l there its.
            true≢false (sym (there-listed place r reach n l there) ∙
            ap (λ j. has_leaf_at wires place (record { connector = j; leaf = l.leaf })) its.0 ∙ ap (λ j. has_leaf_at wires place (record { connector = k; leaf = j })) its.1 ∙ none))

        listed : has_leaf_at wires place (record { connector = k; leaf = leaf }) ≡ true → old k leaf ≡ test before → new k leaf ≡ test after
        listed at =
            let entry = in-entry (leaves_at place 0 wires) (record { connector = k; leaf = leaf }) (leaf-listed place wires (record { connector = k; leaf = leaf }) at) in
            put entry.0 (record { connector = k; leaf = leaf }) (ap (λ xs. slice_get xs entry.0) reach.leaves ∙ entry.1)

        by : (e : Port → ℕ) (o : Option WireDefinition) → slice_get wires k ≡ o → is_leaf_by test wires e k leaf ≡ option_map_or (λ w. option_map_or (λ p. test (e p)) (slice_get (leaves w.connector) leaf) false) o false
        by e o there = ap (λ x. option_map_or (λ (w : WireDefinition). option_map_or (λ p. test (e p)) (slice_get (leaves w.connector) leaf) false) x false) there

        by-port : (e : Port → ℕ) (w : WireDefinition) → slice_get wires k ≡ Some w → (o : Option Port) → slice_get (leaves w.connector) leaf ≡ o → is_leaf_by test wires e k leaf ≡ option_map_or (λ p. test (e p)) o false
        by-port e w there o found = by e (Some w) there ∙ ap (λ x. option_map_or (λ p. test (e p)) x false) found

        nothing : (w : WireDefinition) → slice_get wires k ≡ Some w → slice_get (leaves w.connector) leaf ≡ None → new k leaf ≡ is_leaf_by test wires d k leaf
        nothing w there none =
            away (ap (λ o. option_map_or (λ (v : WireDefinition). option_map_or (λ q. at_port q == place) (slice_get (leaves v.connector) leaf) false) o false) there ∙ ap (λ o. option_map_or (λ q. at_port q == place) o false) none) ∙
            right k leaf ∙ by-port c w there None none ∙ sym (by-port d w there None none)

        at : (w : WireDefinition) → slice_get wires k ≡ Some w → (p : Port) → slice_get (leaves w.connector) leaf ≡ Some p → new k leaf ≡ is_leaf_by test wires d k leaf
        at w there p found =
            ⊎_elim
            (λ same.
            let its = on-port p same in
            listed (at-leaf place k leaf w p there found ∙ eq-eqb (at_port p) place same) (right k leaf ∙ by-port c w there (Some p) found ∙ ap test (was p its.0 its.1)) ∙
            ap test (sym (now p its.0 its.1)) ∙ sym (by-port d w there (Some p) found))
            (λ other.
            away (at-leaf place k leaf w p there found ∙ ne_eqb (at_port p) place other) ∙ right k leaf ∙ by-port c w there (Some p) found ∙
            ap test (sym (off-port p other)) ∙ sym (by-port d w there (Some p) found))
            (cases_eq (at_port p) place)

        inside : (w : WireDefinition) → slice_get wires k ≡ Some w → (o : Option Port) → slice_get (leaves w.connector) leaf ≡ o → new k leaf ≡ is_leaf_by test wires d k leaf
        inside w there None none = nothing w there none
        inside w there (Some p) found = at w there p found

        each : (o : Option WireDefinition) → slice_get wires k ≡ o → new k leaf ≡ is_leaf_by test wires d k leaf
        each None none =
            away (ap (λ o. option_map_or (λ (v : WireDefinition). option_map_or (λ q. at_port q == place) (slice_get (leaves v.connector) leaf) false) o false) none) ∙
            right k leaf ∙ by c None none ∙ sym (by d None none)
        each (Some w) there = inside w there (slice_get (leaves w.connector) leaf) refl

    -- words of connectors to which those with such a leaf are added
    module _ (s t : Changes) (r : PortReach) (reach : IsPortReach wires place r)
        (heavy : (k : ℕ) → has_bit t.heavy k ≡ (has_bit s.heavy k || has_bit r.connectors k))
        (flipped : (is_none after ≡ is_none before → ⊥) → (k : ℕ) → has_bit t.dirty k ≡ (has_bit s.dirty k || has_bit r.connectors k))
        (stays : is_none after ≡ is_none before → t.dirty ≡ s.dirty) where
      -- at a connector without one all is as it was
      untouched : (k : ℕ) → has_bit r.connectors k ≡ false → (w : WireDefinition) (leaf : ℕ) (p : Port) → slice_get wires k ≡ Some w → slice_get (leaves w.connector) leaf ≡ Some p → d p ≡ c p
      untouched k none w leaf p there found =
          off-port p (λ same.
          true≢false (sym (leaf-is-at place wires (record { connector = k; leaf = leaf }) (at-leaf place k leaf w p there found ∙ eq-eqb (at_port p) place same)) ∙ sym (reach.connectors k) ∙ none))

      outside : (k : ℕ) → length wires ≤ k → has_bit r.connectors k ≡ false
      outside k past = reach.connectors k ∙ none-at-past place k past

      alike : (x y : Bool) → (x ≡ y) ⊎ (x ≡ y → ⊥)
      alike true true = inl refl
      alike true false = inr true≢false
      alike false true = inr false≢true
      alike false false = inl refl

      abbrev is_alike : (is_none after ≡ is_none before) ⊎ (is_none after ≡ is_none before → ⊥)
      is_alike = alike (is_none after) (is_none before)

      same-none : is_none after ≡ is_none before → (p : Port) → is_none (d p) ≡ is_none (c p)
      same-none same p =
          ⊎_elim
          (λ on. let its = on-port p on in ap is_none (now p its.0 its.1) ∙ same ∙ ap is_none (sym (was p its.0 its.1)))
          (λ other. ap is_none (off-port p other))
          (cases_eq (at_port p) place)

      pub port-told : IsTold wires c d s t
      port-told = record {
        not_dirty = λ k out. ⊎_elim (λ same. ap (λ w. has_bit w k) (sym (stays same)) ∙ out) (λ differ. (or_parts (has_bit s.dirty k) (has_bit r.connectors k) (sym (flipped differ k) ∙ out)).0) is_alike;
        not_heavy = λ k out. (or_parts (has_bit s.heavy k) (has_bit r.connectors k) (sym (heavy k) ∙ out)).0;
        same_off = λ k out w leaf p there found. ⊎_elim
            (λ same. same-none same p)
            (λ differ. ap is_none (untouched k (or_parts (has_bit s.dirty k) (has_bit r.connectors k) (sym (flipped differ k) ∙ out)).1 w leaf p there found))
            is_alike;
        same_count = λ k out. untouched k (or_parts (has_bit s.heavy k) (has_bit r.connectors k) (sym (heavy k) ∙ out)).1;
        dirty_within = λ k past out. ⊎_elim (λ same. ap (λ w. has_bit w k) (stays same) ∙ out) (λ differ. flipped differ k ∙ or_from (has_bit s.dirty k) (has_bit r.connectors k) out (outside k past)) is_alike;
        heavy_within = λ k past out. heavy k ∙ or_from (has_bit s.heavy k) (has_bit r.connectors k) out (outside k past);
      }

-- ---- the ports of an atom, one after the other

-- what is kept of an atom's ports is what they offered, at those that are left, and what they offer now at all others
abbrev pub mixed : ℕ → List ℕ → List ℕ → List (List ℕ) → ℕ → Port → ℕ
mixed atom before after old left p =
    cond (p.atom == atom) (cond (has left p.port) (slice_index_or before p.port 0) (slice_index_or after p.port 0)) (count_of old p)

module _ (atom : ℕ) (before after : List ℕ) (old new : List (List ℕ)) (row : IsRecounted atom before after old new) where
  of-atom : (left : ℕ) (p : Port) → p.atom ≡ atom → mixed atom before after old left p ≡ cond (has left p.port) (slice_index_or before p.port 0) (slice_index_or after p.port 0)
  of-atom left p same = ap (λ b. cond b (cond (has left p.port) (slice_index_or before p.port 0) (slice_index_or after p.port 0)) (count_of old p)) (eq-eqb p.atom atom same)

  of-other : (left : ℕ) (p : Port) → (p.atom ≡ atom → ⊥) → mixed atom before after old left p ≡ count_of old p
  of-other left p other = ap (λ b. cond b (cond (has left p.port) (slice_index_or before p.port 0) (slice_index_or after p.port 0)) (count_of old p)) (ne_eqb p.atom atom other)

  was-there : (p : Port) → p.atom ≡ atom → count_of old p ≡ slice_index_or before p.port 0
  was-there p same = ap (λ n. slice_index_or (slice_index_or old n []) p.port 0) same ∙ ap (λ r. slice_index_or r p.port 0) row.was

  now-there : (p : Port) → p.atom ≡ atom → count_of new p ≡ slice_index_or after p.port 0
  now-there p same = ap (λ n. slice_index_or (slice_index_or new n []) p.port 0) same ∙ ap (λ r. slice_index_or r p.port 0) row.now

  -- at first all are as they were, if those that are left have all in which the rows differ
  pub all-left : (ports : ℕ) → ((port : ℕ) → has ports port ≡ not (slice_index_or after port 0 == slice_index_or before port 0)) → (p : Port) → count_of old p ≡ mixed atom before after old ports p
  all-left ports exact p =
      ⊎_elim
      (λ same. was-there p same ∙ each (has ports p.port) refl ∙ sym (of-atom ports p same))
      (λ other. sym (of-other ports p other))
      (cases_eq p.atom atom)
    where
      negated : (b : Bool) → false ≡ not b → b ≡ true
      negated true e = refl
      negated false e = absurd (false≢true e)

      each : (b : Bool) → has ports p.port ≡ b → slice_index_or before p.port 0 ≡ cond (has ports p.port) (slice_index_or before p.port 0) (slice_index_or after p.port 0)
      each true there = ap (λ b. cond b (slice_index_or before p.port 0) (slice_index_or after p.port 0)) (sym there)
      each false out =
          sym (eqb-true (slice_index_or after p.port 0) (slice_index_or before p.port 0) (negated (slice_index_or after p.port 0 == slice_index_or before p.port 0) (sym out ∙ exact p.port))) ∙
          ap (λ b. cond b (slice_index_or before p.port 0) (slice_index_or after p.port 0)) (sym out)

  -- in the end all are as they are now
  pub none-left : (left : ℕ) → left ≡ 0 → (p : Port) → mixed atom before after old left p ≡ count_of new p
  none-left left none p =
      ⊎_elim
      (λ same.
      of-atom left p same ∙
      ap (λ b. cond b (slice_index_or before p.port 0) (slice_index_or after p.port 0)) (ap (λ w. has w p.port) none ∙ has-above 0 0 p.port (pow_pos 0) (omega arith)) ∙
      sym (now-there p same))
      (λ other. of-other left p other ∙ ap (λ r. slice_index_or r p.port 0) (sym (row.others p.atom other)))
      (cases_eq p.atom atom)

-- a row that is written over another one
pub row-written : (atom i : ℕ) (counts : List (List ℕ)) (row : List ℕ) → i ≡ atom → IsRecounted atom (slice_index_or counts i []) (slice_index_or (set counts i row) i []) counts (set counts i row)
row-written atom i counts row same = record {
  was = ap (λ k. slice_index_or counts k []) (sym same);
  now = ap (λ k. slice_index_or (set counts i row) k []) (sym same);
  others = λ n other. get_or-set_other counts i n row [] (λ its. other (its ∙ same));
}

-- one port less is left
module _ (left : ℕ) (some : 0 < left) (small : left < 2 ^ 32) where
  abbrev port : ℕ
  port = trailing_zeros w32 left

  abbrev pub rest : ℕ
  rest = bit_and left (left - 1)

  pub port-low : port < MAX_PORTS
  port-low = (bit_at-trailing_zeros w32 left some small).0

  in-left : has left port ≡ true
  in-left = ap (λ x. x == 1) (bit_at-trailing_zeros w32 left some small).1

  not-in-rest : has rest port ≡ false
  not-in-rest = ap (λ w. has w port) (same-rest w32 left some small) ∙ ap (λ x. x == 1) (bit_at_clear_same w32 left port port-low)

  others-in-rest : (k : ℕ) → (k ≡ port → ⊥) → has rest k ≡ has left k
  others-in-rest k other =
      ⊎_elim
      (λ within. ap (λ w. has w k) (same-rest w32 left some small) ∙ ap (λ x. x == 1) (bit_at_clear_other w32 left port port-low k within other))
      (λ past. has-above rest 32 k (omega (arith, fewer-less w32 left some small, small)) past ∙ sym (has-above left 32 k small past))
      (cases_lt k 32)

  module _ (atom : ℕ) (before after : List ℕ) (old new : List (List ℕ)) (row : IsRecounted atom before after old new) where
    pub left-before : (p : Port) → p.atom ≡ atom → p.port ≡ port → mixed atom before after old left p ≡ slice_index_or before port 0
    left-before p same its =
        of-atom atom before after old new row left p same ∙
        ap (λ b. cond b (slice_index_or before p.port 0) (slice_index_or after p.port 0)) (ap (has left) its ∙ in-left) ∙ ap (λ k. slice_index_or before k 0) its

    pub rest-after : (p : Port) → p.atom ≡ atom → p.port ≡ port → mixed atom before after old rest p ≡ slice_index_or after port 0
    rest-after p same its =
        of-atom atom before after old new row rest p same ∙
        ap (λ b. cond b (slice_index_or before p.port 0) (slice_index_or after p.port 0)) (ap (has rest) its ∙ not-in-rest) ∙ ap (λ k. slice_index_or after k 0) its

    pub others-alike : (p : Port) → ((p.atom ≡ atom) × (p.port ≡ port) → ⊥) → mixed atom before after old rest p ≡ mixed atom before after old left p
    others-alike p other =
        ⊎_elim
        (λ same.
        of-atom atom before after old new row rest p same ∙
        ap (λ b. cond b (slice_index_or before p.port 0) (slice_index_or after p.port 0)) (others-in-rest p.port (λ its. other (same, its))) ∙
        sym (of-atom atom before after old new row left p same))
        (λ differs. of-other atom before after old new row rest p differs ∙ sym (of-other atom before after old new row left p differs))
        (cases_eq p.atom atom)
