-- Each step keeps the rule.
use Rattle.std.proofs.Common.{◌≡◌, ◌≢◌, ℕ, zero, suc, ◌==◌, Bool, true, false, true≢false, if◌then◌else◌, List, [], ◌∷◌, ◌++◌, map, set, refl, ap, sym, ◌∙◌, subst, ⊎_elim, arith}
use Rattle.std.specs.Prelude.{slice_index, slice_set}
use Rattle.std.proofs.lemmas.Bool.Decides.{nat_tests}
use Rattle.std.proofs.lemmas.List.Elements.{All-nil, All-cons, All-append}
use mathlib.Core.Option.{some, none, some-injective, some-ne-none}
use mathlib.Core.List.{IsPrefix}
use lib.ListN.{get_elem?}
use prog.Atomic.{either}
use Rattle.atomic_table.specs.Table.{State, Me, step, keeps, Allows, Splits, Joins, opening as table_opening}
use Rattle.atomic_table.proofs.Lists.{at_set, at_snoc}
use Rattle.plant_core.specs.declared.front.Front.{Front}
use Rattle.front_word.specs.declared.knowing.Known.{Known}
use Rattle.front_word.specs.Fronts.{IsNotBelow, IsRising, IsWithin, last_of, packed}
use Rattle.front_word.specs.Rules.{IsPublished, KnowsOf, Publishes, Reads, first_pass, joined, longer, spent_pass, watching}
use Rattle.front_word.proofs.Prefixes.{all_prefixes, prefix_longer, prefix_more, prefix_self, prefix_trans}
use Rattle.front_word.proofs.Fronts.{last_of-snoc, map-snoc, rising-snoc}

off : false ≡ true → ⊥
off e = true≢false (sym e)

module _ {E : Type 0} where
  -- what the views are known to be when one of them changes
  views_set : (K : ℕ → Known E → Type 0) (views : List (Known E)) (id : ℕ) (w : Known E) → (w.spent ≡ false → K id w)
      → ((j : ℕ) (u : Known E) → j ≢ id → get_elem? views j ≡ some u → u.spent ≡ false → K j u)
      → (j : ℕ) (u : Known E) → get_elem? (set views id w) j ≡ some u → u.spent ≡ false → K j u
  views_set K views id w mine others j u e unspent = ⊎_elim
      (λ (t : (j ≡ id) × (w ≡ u)). subst (λ (x : ℕ × Known E). K x.0 x.1) (λ i. (sym t.0 i, t.1 i)) (mine (ap (λ (x : Known E). x.spent) t.1 ∙ unspent)))
      (λ (t : (j ≢ id) × (get_elem? views j ≡ some u)). others j u t.0 t.1 unspent)
      (at_set views id j w u e)

  views_snoc : (K : ℕ → Known E → Type 0) (views : List (Known E)) (w : Known E) → ((j : ℕ) → K j w)
      → ((j : ℕ) (u : Known E) → get_elem? views j ≡ some u → u.spent ≡ false → K j u)
      → (j : ℕ) (u : Known E) → get_elem? (views ++ w ∷ []) j ≡ some u → u.spent ≡ false → K j u
  views_snoc K views w new others j u e unspent = ⊎_elim
      (λ (t : get_elem? views j ≡ some u). others j u t unspent)
      (λ (t : w ≡ u). subst (K j) t (new j))
      (at_snoc views w u j e)

  -- a watch of a history is one of a longer one
  further : (history more : List E) (opening : Front) (publisher seat : ℕ) (v : Known E) → (v.publishes ≡ true → ⊥) → IsPrefix history more
      → KnowsOf history opening publisher seat v → KnowsOf more opening publisher seat v
  further history more opening publisher seat v watches p k = record {
    opening_is = k.opening_is;
    seen = prefix_trans v.seen history more k.seen p;
    old = all_prefixes v.old history more p k.old;
    whole = λ is. absurd (watches is);
  }

  module _ (front : E → Front) where
    one_word : (s : State E (Known E)) (n : ℕ) → s.words ≡ n ∷ [] → slice_set s.words 0 (slice_index s.words 0) ≡ s.words
    one_word s n e = ap (λ (ws : List ℕ). slice_set ws 0 (slice_index ws 0)) e ∙ sym e

    pub starts : (opening : Front) → IsWithin opening opening → IsPublished front opening (table_opening (packed opening opening ∷ []) [] (first_pass opening))
    starts opening within = record {
      history = [];
      publisher = 0;
      opens = within;
      rises = tt;
      word = refl;
      known = one;
    }
      where
        one : (seat : ℕ) (v : Known E) → get_elem? (first_pass opening ∷ []) seat ≡ some v → v.spent ≡ false → KnowsOf [] opening 0 seat v
        one zero v e unspent = subst (KnowsOf [] opening 0 0) (some-injective _ _ e) (record { opening_is = refl; seen = prefix_self []; old = All-nil (λ xs. IsPrefix xs []); whole = λ _. (refl, refl) })
        one (suc seat) v e unspent = absurd (some-ne-none v (sym e))

    pub reads : (slots id : ℕ) (me : Me E (Known E)) (opening : Front) → me.0.opening ≡ opening → me.0.spent ≡ false
        → Allows (IsPublished front opening) slots id me 0 (λ n. n) (Reads front (step slots 0 0 0 none) me)
    reads slots id me opening opens unspent s r long at small =
        let v : Known E = me.0 in
        let k : KnowsOf r.history opening r.publisher id v = r.known id v at unspent in
        let w : Known E = record v { seen = r.history; old = [] } in
        let mine : KnowsOf r.history opening r.publisher id w = record { opening_is = k.opening_is; seen = prefix_self r.history; old = All-nil (λ xs. IsPrefix xs r.history); whole = λ is. ((k.whole is).0, refl) } in (
          w,
          keeps,
          tt,
          record {
            history = r.history;
            publisher = r.publisher;
            opens = r.opens;
            rises = r.rises;
            word = one_word s _ r.word ∙ r.word;
            known = views_set (KnowsOf r.history opening r.publisher) s.views id w (λ _. mine) (λ j u apart e. r.known j u e);
          },
          (
            record {
              same = refl;
              grows = k.seen;
              follows = k.old;
              keeps = λ is. sym (k.whole is).1;
              rises = subst (λ (f : Front). IsRising f f (map front r.history)) (sym opens) r.rises;
              word = ap (λ (ws : List ℕ). slice_index ws 0) r.word ∙ ap (λ (f : Front). packed f (last_of f (map front r.history))) (sym opens);
            },
            refl,
          ),
        )

    pub publishes : (slots id : ℕ) (me : Me E (Known E)) (opening last : Front) (e : E) (old new : ℕ) → me.0.spent ≡ false → me.0.publishes ≡ true → last ≡ last_of opening (map front me.0.seen)
        → IsWithin opening (front e) → IsNotBelow last (front e) → old ≡ packed opening last → new ≡ packed opening (front e)
        → Allows (IsPublished front opening) slots id me 0 (λ n. either (n == old) new n) (Publishes (step slots 0 old new (some e)) me)
    publishes slots id me opening last e old new unspent publishing last_is within rises old_is new_is s r long at small =
        let v : Known E = me.0 in
        let k : KnowsOf r.history opening r.publisher id v = r.known id v at unspent in
        let whole : v.seen ≡ r.history = (k.whole publishing).1 in
        let more : List E = r.history ++ e ∷ [] in
        let w : Known E = record v { seen = v.seen ++ e ∷ [] } in
        let seen : w.seen ≡ more = ap (λ xs. xs ++ e ∷ []) whole in
        let last_here : last ≡ last_of opening (map front r.history) = last_is ∙ ap (λ xs. last_of opening (map front xs)) whole in
        let found : slice_index s.words 0 ≡ packed opening last = ap (λ (ws : List ℕ). slice_index ws 0) r.word ∙ ap (packed opening) (sym last_here) in
        let same : slice_index s.words 0 ≡ old = found ∙ sym old_is in
        let hit : (slice_index s.words 0 == old) ≡ true = grind (arith, nat_tests) in
        let stored : either (slice_index s.words 0 == old) new (slice_index s.words 0) ≡ packed opening (front e) = ap (λ b. either b new (slice_index s.words 0)) hit ∙ new_is in
        let lasts : last_of opening (map front more) ≡ front e = ap (last_of opening) (map-snoc front r.history e) ∙ last_of-snoc opening (front e) (map front r.history) in
        let mine : KnowsOf more opening r.publisher id w = record {
          opening_is = k.opening_is;
          seen = subst (λ xs. IsPrefix xs more) (sym seen) (prefix_self more);
          old = all_prefixes v.old r.history more (prefix_more r.history (e ∷ [])) k.old;
          whole = λ is. ((k.whole is).0, seen);
        } in (
          w,
          keeps,
          tt,
          record {
            history = more;
            publisher = r.publisher;
            opens = r.opens;
            rises = subst (IsRising opening opening) (sym (map-snoc front r.history e)) (rising-snoc opening opening (front e) (map front r.history) r.rises within (subst (λ (f : Front). IsNotBelow f (front e)) last_here rises));
            word = ap (λ (n : ℕ). slice_set s.words 0 n) stored ∙ (ap (λ (ws : List ℕ). slice_set ws 0 (packed opening (front e))) r.word ∙ ap (λ (f : Front). packed opening f ∷ []) (sym lasts));
            known = views_set (KnowsOf more opening r.publisher) s.views id w (λ _. mine)
                (λ j u apart there good. let l : KnowsOf r.history opening r.publisher j u = r.known j u there good in
                further r.history more opening r.publisher j u (λ is. apart ((l.whole is).0 ∙ sym (k.whole publishing).0)) (prefix_more r.history (e ∷ [])) l);
          },
          λ d said. (ap (λ (x : E). record v { seen = v.seen ++ x ∷ [] }) (some-injective _ _ said), refl),
        )

    pub splits : (opening : Front) (id : ℕ) (v : Known E) → v.spent ≡ false → Splits (IsPublished front opening) id v v (watching v)
    splits opening id v unspent s r at =
        let k : KnowsOf r.history opening r.publisher id v = r.known id v at unspent in
        let new : (j : ℕ) → KnowsOf r.history opening r.publisher j (watching v) = λ j. record { opening_is = k.opening_is; seen = k.seen; old = k.old; whole = λ is. absurd (off is) } in record {
          history = r.history;
          publisher = r.publisher;
          opens = r.opens;
          rises = r.rises;
          word = r.word;
          known = views_snoc (KnowsOf r.history opening r.publisher) (set s.views id v) (watching v) new
              (views_set (KnowsOf r.history opening r.publisher) s.views id v (λ _. k) (λ j u apart e. r.known j u e));
        }

    pub joins : (opening : Front) (id : ℕ) (v : Known E) (other : ℕ) (w : Known E) → v.spent ≡ false → w.spent ≡ false → Joins (IsPublished front opening) id v other w (joined v w) spent_pass
    joins opening id v other w unspent good s r at apart there =
        let K : ℕ → Known E → Type 0 = KnowsOf r.history opening r.publisher in
        let k : K id v = r.known id v at unspent in
        let views : List (Known E) = set s.views id (joined v w) in
        let l : K other w = ⊎_elim (λ (t : (other ≡ id) × (joined v w ≡ w)). absurd (apart t.0)) (λ (t : (other ≢ id) × (get_elem? s.views other ≡ some w)). r.known other w t.1 good) (at_set s.views id other (joined v w) w there) in
        let begins : List E → Type 0 = λ xs. IsPrefix xs r.history in
        let seen : (b : Bool) → begins (if b then v.seen else longer v.seen w.seen) = λ b. elim b as (λ (x : Bool). begins (if x then v.seen else longer v.seen w.seen)) [ true ↦ k.seen | false ↦ prefix_longer v.seen w.seen r.history k.seen l.seen ] in
        let both : K id (joined v w) = record {
          opening_is = k.opening_is;
          seen = seen v.publishes;
          old = All-cons begins v.seen (w.seen ∷ (v.old ++ w.old)) k.seen (All-cons begins w.seen (v.old ++ w.old) l.seen (All-append begins v.old w.old k.old l.old));
          whole = λ is. ((k.whole is).0, ap (λ (b : Bool). if b then v.seen else longer v.seen w.seen) is ∙ (k.whole is).1);
        } in record {
          history = r.history;
          publisher = r.publisher;
          opens = r.opens;
          rises = r.rises;
          word = r.word;
          known = views_set K views other spent_pass (λ spent. absurd (off (sym spent)))
              (λ j u away e. views_set K s.views id (joined v w) (λ _. both) (λ i x _ f. r.known i x f) j u e);
        }
