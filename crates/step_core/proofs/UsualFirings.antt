-- What a firing changes that was made with the system is what it changes of what is kept.
use Rattle.std.proofs.Common.{◌≡◌, ◌⊎◌, inl, inr, ℕ, suc, ◌<◌, ◌≤◌, ◌==◌, refl, sym, ◌∙◌, ap, List, [], ◌∷◌, set, length, Bool, true, false, cond, ◌&&◌, ◌||◌, bit_or, arith, ⊎_elim}
use Rattle.std.specs.Prelude.{Option, Some, None, option_map, slice_get, slice_index_or}
use Rattle.std.specs.List.{list_any}
use Rattle.std.specs.Option.{option_map_or}
use Rattle.std.proofs.lemmas.Bool.{and_from, cases_eq, eq-eqb, eqb-true, ne_eqb, or_cases, or_from, or_left, or_parts, or_right, true≢false}
use Rattle.std.proofs.lemmas.List.{length-map}
use Rattle.std.proofs.lemmas.Option.{slice_get-map}
use Rattle.petri_atom.specs.Definition.{AtomDefinition, enabled, offered_set}
use Rattle.petri_atom.specs.Local.{Local}
use Rattle.petri_atom.proofs.Sets.{has-or}
use Rattle.connector_tree.specs.Masks.{is_set}
use Rattle.connector_tree.specs.Tree.{leaves}
use Rattle.connector_tree.specs.declared.tree.Port.{Port}
use Rattle.priority_filter.specs.Members.{has_bit}
use Rattle.plant_model.specs.Plant.{WireDefinition}
use Rattle.plant_model.specs.Usual.{IsPut, IsUsual, count_in, is_leaf_on, is_on, leaves_of}
use Rattle.plant_model.specs.declared.usual.Put.{Put}
use Rattle.plant_model.specs.declared.usual.Usual.{Usual}
use Rattle.step_core.specs.EnabledTransitions.{AreCounted, count_at}
use Rattle.step_core.specs.Leaves.{AreLeaves, count_of, is_many, is_none}
use Rattle.step_core.specs.Puts.{IsRight, is_put}
use Rattle.step_core.specs.Told.{IsTold}
use Rattle.step_core.specs.declared.changes.Changes.{Changes}
use Rattle.step_core.specs.declared.leaves.Leaves.{Leaves}
use Rattle.step_core.proofs.Recounted.{count-here, count-there, recounted}
use Rattle.step_core.proofs.Telling.{is_leaf_by}

-- where one of a list passes a test, and each that does passes another one, one passes that
any-also : {X : Type 0} (f g : X → Bool) (xs : List X) → ((n : ℕ) (x : X) → slice_get xs n ≡ Some x → f x ≡ true → g x ≡ true) → list_any f xs ≡ true → list_any g xs ≡ true
any-also f g [] also passes = passes
any-also f g (x ∷ xs) also passes =
    ⊎_elim
    (λ first. or_left (g x) (list_any g xs) (also 0 x refl first))
    (λ rest. or_right (g x) (list_any g xs) (any-also f g xs (λ n. also (suc n)) rest))
    (or_cases (f x) (list_any f xs) passes)

module _ (wires : List WireDefinition) where
  -- the leaves of a connector
  pub its-leaves : (k : ℕ) (w : WireDefinition) → slice_get wires k ≡ Some w → slice_get (leaves_of wires) k ≡ Some (leaves w.connector)
  its-leaves k w there = slice_get-map (λ v. leaves v.connector) wires k ∙ ap (option_map (λ v. leaves v.connector)) there

  -- a leaf that is there, by numbers at its port
  by-port : (test : ℕ → Bool) (c : Port → ℕ) (k leaf : ℕ) (w : WireDefinition) (p : Port) → slice_get wires k ≡ Some w → slice_get (leaves w.connector) leaf ≡ Some p → is_leaf_by test wires c k leaf ≡ test (c p)
  by-port test c k leaf w p there found =
      ap (λ o. option_map_or (λ (v : WireDefinition). option_map_or (λ q. test (c q)) (slice_get (leaves v.connector) leaf) false) o false) there ∙
      ap (λ o. option_map_or (λ q. test (c q)) o false) found

  on-port : (test : ℕ → Bool) (atom : ℕ) (counts : List ℕ) (k leaf : ℕ) (w : WireDefinition) (p : Port) → slice_get wires k ≡ Some w → slice_get (leaves w.connector) leaf ≡ Some p → is_leaf_on test (leaves_of wires) atom counts k leaf ≡ (p.atom == atom && test (count_in counts p.port))
  on-port test atom counts k leaf w p there found =
      ap (λ o. option_map_or (λ ps. is_on test atom counts ps leaf) o false) (its-leaves k w there) ∙
      ap (λ o. option_map_or (λ q. q.atom == atom && test (count_in counts q.port)) o false) found

  -- a leaf is there, or passes no test by any numbers
  abbrev Gone : ℕ → ℕ → Type 0
  Gone k leaf =
      ((test : ℕ → Bool) (c : Port → ℕ) → is_leaf_by test wires c k leaf ≡ false) ×
      ((test : ℕ → Bool) (atom : ℕ) (counts : List ℕ) → is_leaf_on test (leaves_of wires) atom counts k leaf ≡ false)

  leaf-there : (k leaf : ℕ) → ((w : WireDefinition) × (p : Port) × (slice_get wires k ≡ Some w) × (slice_get (leaves w.connector) leaf ≡ Some p)) ⊎ Gone k leaf
  leaf-there k leaf = by-wire (slice_get wires k) refl
    where
      by-leaf : (w : WireDefinition) → slice_get wires k ≡ Some w → (o : Option Port) → slice_get (leaves w.connector) leaf ≡ o → ((v : WireDefinition) × (p : Port) × (slice_get wires k ≡ Some v) × (slice_get (leaves v.connector) leaf ≡ Some p)) ⊎ Gone k leaf
      by-leaf w there (Some p) found = inl (w, p, there, found)
      by-leaf w there None gone =
          inr (
            λ test c. ap (λ o. option_map_or (λ (v : WireDefinition). option_map_or (λ q. test (c q)) (slice_get (leaves v.connector) leaf) false) o false) there ∙ ap (λ o. option_map_or (λ q. test (c q)) o false) gone,
            λ test atom counts. ap (λ o. option_map_or (λ ps. is_on test atom counts ps leaf) o false) (its-leaves k w there) ∙ ap (λ o. option_map_or (λ q. q.atom == atom && test (count_in counts q.port)) o false) gone,
          )

      by-wire : (o : Option WireDefinition) → slice_get wires k ≡ o → ((v : WireDefinition) × (p : Port) × (slice_get wires k ≡ Some v) × (slice_get (leaves v.connector) leaf ≡ Some p)) ⊎ Gone k leaf
      by-wire (Some w) there = by-leaf w there (slice_get (leaves w.connector) leaf) refl
      by-wire None gone =
          inr (
            λ test c. ap (λ o. option_map_or (λ (v : WireDefinition). option_map_or (λ q. test (c q)) (slice_get (leaves v.connector) leaf) false) o false) gone,
            λ test atom counts. ap (λ o. option_map_or (λ ps. is_on test atom counts ps leaf) o false) (slice_get-map (λ v. leaves v.connector) wires k ∙ ap (option_map (λ v. leaves v.connector)) gone),
          )

  -- ---- a firing of one transition of an atom, where that offered what is written down

  module _ (a : AtomDefinition) (atom : ℕ) (u : Usual) (usual : IsUsual a (leaves_of wires) atom u) (before : Local) (was : u.before ≡ offered_set a before) (c d : Port → ℕ)
      (old : (p : Port) → p.atom ≡ atom → c p ≡ length (enabled a before p.port)) (now : (p : Port) → p.atom ≡ atom → d p ≡ count_in u.counts p.port) (others : (p : Port) → (p.atom ≡ atom → ⊥) → d p ≡ c p) where
    same-off : (k : ℕ) → has_bit u.dirty k ≡ false → (w : WireDefinition) (leaf : ℕ) (p : Port) → slice_get wires k ≡ Some w → slice_get (leaves w.connector) leaf ≡ Some p → is_none (d p) ≡ is_none (c p)
    same-off k out w leaf p there found =
        ⊎_elim
        (λ own. ap is_none (now p own) ∙ usual.dirty k leaf (leaves w.connector) p before out (its-leaves k w there) found own was ∙ ap is_none (sym (old p own)))
        (λ other. ap is_none (others p other))
        (cases_eq p.atom atom)

    same-count : (k : ℕ) → has_bit u.heavy k ≡ false → (w : WireDefinition) (leaf : ℕ) (p : Port) → slice_get wires k ≡ Some w → slice_get (leaves w.connector) leaf ≡ Some p → d p ≡ c p
    same-count k out w leaf p there found =
        ⊎_elim
        (λ own. now p own ∙ usual.heavy k leaf (leaves w.connector) p before out (its-leaves k w there) found own was ∙ sym (old p own))
        (λ other. others p other)
        (cases_eq p.atom atom)

    pub usual-told : (s t : Changes) → t.dirty ≡ bit_or s.dirty u.dirty → t.heavy ≡ bit_or s.heavy u.heavy → IsTold wires c d s t
    usual-told s t dirty heavy = record {
      not_dirty = λ k out. (or_parts (has_bit s.dirty k) (has_bit u.dirty k) (sym (dirty_at k) ∙ out)).0;
      not_heavy = λ k out. (or_parts (has_bit s.heavy k) (has_bit u.heavy k) (sym (heavy_at k) ∙ out)).0;
      same_off = λ k out. same-off k (or_parts (has_bit s.dirty k) (has_bit u.dirty k) (sym (dirty_at k) ∙ out)).1;
      same_count = λ k out. same-count k (or_parts (has_bit s.heavy k) (has_bit u.heavy k) (sym (heavy_at k) ∙ out)).1;
      dirty_within = λ k past out. dirty_at k ∙ or_from (has_bit s.dirty k) (has_bit u.dirty k) out (usual.within k (beyond k past)).0;
      heavy_within = λ k past out. heavy_at k ∙ or_from (has_bit s.heavy k) (has_bit u.heavy k) out (usual.within k (beyond k past)).1;
    }
      where
        dirty_at : (k : ℕ) → has_bit t.dirty k ≡ (has_bit s.dirty k || has_bit u.dirty k)
        dirty_at k = ap (λ w. has_bit w k) dirty ∙ has-or s.dirty u.dirty k

        heavy_at : (k : ℕ) → has_bit t.heavy k ≡ (has_bit s.heavy k || has_bit u.heavy k)
        heavy_at k = ap (λ w. has_bit w k) heavy ∙ has-or s.heavy u.heavy k

        beyond : (k : ℕ) → length wires ≤ k → length (leaves_of wires) ≤ k
        beyond k past = omega (arith, past, length-map wires (λ w. leaves w.connector))

    -- what is put of the leaves is what they offer now
    module _ (test : ℕ → Bool) (read : Put → ℕ) (reads : (p : Put) → IsPut (leaves_of wires) atom u.counts p → (leaf : ℕ) → is_set (read p) leaf ≡ is_leaf_on test (leaves_of wires) atom u.counts p.connector leaf) where
      pub puts-right : (n : ℕ) (p : Put) → slice_get u.puts.items n ≡ Some p → IsRight (is_leaf_by test wires d) (read p) p
      puts-right n p there leaf =
          reads p right leaf ∙
          ⊎_elim
          (λ found. inside found.0 found.1 found.2 found.3)
          (λ gone. gone.1 test atom u.counts ∙ sym (ap (λ b. b && is_leaf_by test wires d p.connector leaf) (gone.1 (λ count. true) atom u.counts)))
          (leaf-there p.connector leaf) ∙
          ap (λ b. b && is_leaf_by test wires d p.connector leaf) (sym (right.mask leaf))
        where
          right : IsPut (leaves_of wires) atom u.counts p
          right = usual.right n p there

          true-and : (b x : Bool) → (b && x) ≡ ((b && true) && x)
          true-and true x = refl
          true-and false x = refl

          both : (q : Port) → (q.atom == atom && test (count_in u.counts q.port)) ≡ ((q.atom == atom && true) && test (d q))
          both q =
              ⊎_elim
              (λ own. true-and (q.atom == atom) (test (count_in u.counts q.port)) ∙ ap (λ n. (q.atom == atom && true) && test n) (sym (now q own)))
              (λ other. ap (λ b. b && test (count_in u.counts q.port)) (ne_eqb q.atom atom other) ∙ sym (ap (λ b. (b && true) && test (d q)) (ne_eqb q.atom atom other)))
              (cases_eq q.atom atom)

          inside : (w : WireDefinition) (q : Port) → slice_get wires p.connector ≡ Some w → slice_get (leaves w.connector) leaf ≡ Some q → is_leaf_on test (leaves_of wires) atom u.counts p.connector leaf ≡ (is_leaf_on (λ count. true) (leaves_of wires) atom u.counts p.connector leaf && is_leaf_by test wires d p.connector leaf)
          inside w q at found =
              on-port test atom u.counts p.connector leaf w q at found ∙ both q ∙
              sym (ap (λ b. b && is_leaf_by test wires d p.connector leaf) (on-port (λ count. true) atom u.counts p.connector leaf w q at found) ∙ ap (λ b. (q.atom == atom && true) && b) (by-port test d p.connector leaf w q at found))

      -- a leaf on the atom of a heavy connector is put
      put-there : (k leaf : ℕ) (w : WireDefinition) (q : Port) → slice_get wires k ≡ Some w → slice_get (leaves w.connector) leaf ≡ Some q → q.atom ≡ atom → has_bit u.heavy k ≡ true → is_put u.puts.items k leaf ≡ true
      put-there k leaf w q at found own heavy =
          any-also (λ p. p.connector == k) (λ p. p.connector == k && is_set p.mask leaf) u.puts.items
          (λ n p there its.
          and_from (p.connector == k) (is_set p.mask leaf) its
          ((usual.right n p there).mask leaf ∙ ap (λ j. is_leaf_on (λ count. true) (leaves_of wires) atom u.counts j leaf) (eqb-true p.connector k its) ∙
          on-port (λ count. true) atom u.counts k leaf w q at found ∙ ap (λ b. b && true) (eq-eqb q.atom atom own)))
          (usual.put k heavy)

      -- one that none is put of offers as many transitions as before
      not-put : (k leaf : ℕ) → is_put u.puts.items k leaf ≡ false → is_leaf_by test wires c k leaf ≡ is_leaf_by test wires d k leaf
      not-put k leaf none =
          ⊎_elim
          (λ found. by-port test c k leaf found.0 found.1 found.2 found.3 ∙ ap test (sym (same found.0 found.1 found.2 found.3 (cases_eq found.1.atom atom) (has_bit u.heavy k) refl)) ∙ sym (by-port test d k leaf found.0 found.1 found.2 found.3))
          (λ gone. gone.0 test c ∙ sym (gone.0 test d))
          (leaf-there k leaf)
        where
          same : (w : WireDefinition) (q : Port) → slice_get wires k ≡ Some w → slice_get (leaves w.connector) leaf ≡ Some q → (q.atom ≡ atom) ⊎ (q.atom ≡ atom → ⊥) → (b : Bool) → has_bit u.heavy k ≡ b → d q ≡ c q
          same w q at found (inr other) b is = others q other
          same w q at found (inl own) true is = absurd (true≢false (sym (put-there k leaf w q at found own is) ∙ none))
          same w q at found (inl own) false is = same-count k is w leaf q at found

      -- so the words are right
      pub words-right : (before_it after_it : ℕ → ℕ → Bool) → ((k leaf : ℕ) → before_it k leaf ≡ is_leaf_by test wires c k leaf)
          → ((k leaf : ℕ) → after_it k leaf ≡ cond (is_put u.puts.items k leaf) (is_leaf_by test wires d k leaf) (before_it k leaf)) → (k leaf : ℕ) → after_it k leaf ≡ is_leaf_by test wires d k leaf
      words-right before_it after_it kept put k leaf = put k leaf ∙ each (is_put u.puts.items k leaf) refl
        where
          each : (b : Bool) → is_put u.puts.items k leaf ≡ b → cond (is_put u.puts.items k leaf) (is_leaf_by test wires d k leaf) (before_it k leaf) ≡ is_leaf_by test wires d k leaf
          each true is = ap (λ b. cond b (is_leaf_by test wires d k leaf) (before_it k leaf)) is
          each false is = ap (λ b. cond b (is_leaf_by test wires d k leaf) (before_it k leaf)) is ∙ kept k leaf ∙ not-put k leaf is

-- ---- what is kept of all atoms, and of the leaves of all connectors

module _ (atoms : List AtomDefinition) (wires : List WireDefinition) (a : AtomDefinition) (atom : ℕ) (known : slice_get atoms atom ≡ Some a) (u : Usual) (usual : IsUsual a (leaves_of wires) atom u)
    (sets : List ℕ) (counts : List (List ℕ)) (counted : AreCounted atoms sets counts) (before : Local) (offered : slice_index_or sets atom 0 ≡ offered_set a before) (was : u.before ≡ slice_index_or sets atom 0)
    (in-sets : atom < length sets) (in-counts : atom < length counts) where
  abbrev pub later : List (List ℕ)
  later = set counts atom u.counts

  pub usual-counted : AreCounted atoms (set sets atom u.after) later
  usual-counted = recounted sets counts atom u.after u.counts in-sets in-counts a usual.counts usual.past usual.few atoms known counted

  old-count : (p : Port) → p.atom ≡ atom → count_of counts p ≡ length (enabled a before p.port)
  old-count p own = ap (λ n. count_at counts n p.port) own ∙ counted.at_ports atom a before p.port known offered

  new-count : (p : Port) → p.atom ≡ atom → count_of later p ≡ count_in u.counts p.port
  new-count p own = count-here sets counts atom u.after u.counts in-sets in-counts p.atom p.port own

  other-count : (p : Port) → (p.atom ≡ atom → ⊥) → count_of later p ≡ count_of counts p
  other-count p other = count-there sets counts atom u.after u.counts in-sets in-counts p.atom p.port other

  pub all-told : (s t : Changes) → t.dirty ≡ bit_or s.dirty u.dirty → t.heavy ≡ bit_or s.heavy u.heavy → IsTold wires (count_of counts) (count_of later) s t
  all-told = usual-told wires a atom u usual before (was ∙ offered) (count_of counts) (count_of later) old-count new-count other-count

  pub all-leaves : (l m : Leaves) → AreLeaves wires counts l
      → ((right : ℕ → ℕ → Bool) → ((n : ℕ) (p : Put) → slice_get u.puts.items n ≡ Some p → IsRight right p.off p) → (k leaf : ℕ) → is_set (slice_index_or m.off k 0) leaf ≡ cond (is_put u.puts.items k leaf) (right k leaf) (is_set (slice_index_or l.off k 0) leaf))
      → ((right : ℕ → ℕ → Bool) → ((n : ℕ) (p : Put) → slice_get u.puts.items n ≡ Some p → IsRight right p.many p) → (k leaf : ℕ) → is_set (slice_index_or m.many k 0) leaf ≡ cond (is_put u.puts.items k leaf) (right k leaf) (is_set (slice_index_or l.many k 0) leaf))
      → AreLeaves wires later m
  all-leaves l m right off many = record {
    off = each is_none (λ p. p.off) (λ p put. put.off) (λ k leaf. is_set (slice_index_or l.off k 0) leaf) (λ k leaf. is_set (slice_index_or m.off k 0) leaf) right.off off;
    many = each is_many (λ p. p.many) (λ p put. put.many) (λ k leaf. is_set (slice_index_or l.many k 0) leaf) (λ k leaf. is_set (slice_index_or m.many k 0) leaf) right.many many;
  }
    where
      each : (test : ℕ → Bool) (read : Put → ℕ) → ((p : Put) → IsPut (leaves_of wires) atom u.counts p → (leaf : ℕ) → is_set (read p) leaf ≡ is_leaf_on test (leaves_of wires) atom u.counts p.connector leaf)
          → (old new : ℕ → ℕ → Bool) → ((k leaf : ℕ) → old k leaf ≡ is_leaf_by test wires (count_of counts) k leaf)
          → ((is : ℕ → ℕ → Bool) → ((n : ℕ) (p : Put) → slice_get u.puts.items n ≡ Some p → IsRight is (read p) p) → (k leaf : ℕ) → new k leaf ≡ cond (is_put u.puts.items k leaf) (is k leaf) (old k leaf))
          → (k leaf : ℕ) → new k leaf ≡ is_leaf_by test wires (count_of later) k leaf
      each test read reads old new kept put =
          words-right wires a atom u usual before (was ∙ offered) (count_of counts) (count_of later) old-count new-count other-count test read reads old new kept
          (put (is_leaf_by test wires (count_of later)) (puts-right wires a atom u usual before (was ∙ offered) (count_of counts) (count_of later) old-count new-count other-count test read reads))
