-- How a run of cells goes on: what holds of each image after one cell more.
use Rattle.std.proofs.Common.{◌≡◌, ◌≢◌, ◌⊎◌, inl, inr, ⊎_elim, ℕ, ◌+◌, ◌<◌, ◌≤◌, List, [], length, get_or, Some, None, Result, Ok, Err, OnOk, OnErr, refl, sym, ◌∙◌, ap, subst, arith}
use Rattle.std.proofs.lemmas.Bool.{cases_lt, cases_eq}
use Rattle.std.proofs.lemmas.List.{ext_get_or}
use Rattle.disk_model.specs.declared.disk.DiskFault.{DiskFault}
use Rattle.disk_model.specs.DiskState.{DiskState, Syncs, IsUnchanged}
use Rattle.disk_model.specs.Cells.{Cell, body_at, cells_of, cell, seen_cells, MayBe, IsClosed, IsNoneOf, Leaves, OldOrEmpty, EmptyOrNew, Settles, Erased, Filled}
use Rattle.disk_model.specs.Steps.{ChangesOne, IsAsBefore, IsAsBeforeOrEmpty, IsEmptied, IsEmptyOr, HasBody, Steps, AreClosed, AllDiffer, AreFirm, SeenEmptied, SeenStaged, SeenOpened}
use Rattle.disk_model.specs.Moments.{leaves_start, leaves_unchanged, leaves_then, leaves_weaker, leaves_now}
use Rattle.disk_model.proofs.CallLemmas.{settled_by_sync, steps_sync, leaves_step}

-- a step that changes no cell leaves the same list
pub same_cells : (k : ℕ) (before cells : List Cell) → ChangesOne k IsAsBefore before cells → cells ≡ before
same_cells k before cells ch = ext_get_or None cells before ch.count (λ j lt. elim (cases_eq j k) [
  | inl is ↦ subst (λ (n : ℕ). get_or cells n None ≡ get_or before n None) (sym is) ch.here
  | inr ne ↦ ch.others j ne
])

-- k is entry i of ks, so it differs from what is none of them
pub apart : (ks : List ℕ) (i k j : ℕ) → i < length ks → k ≡ get_or ks i 0 → IsNoneOf ks j → j ≢ k
apart ks i k j lt is none same = none i lt (sym is ∙ sym same)

module _ (size : ℕ) where
  -- a sync after a run
  pub leaves_sync : (P : List Cell → Type 0) (old mid new : DiskState) → 0 < size → Leaves size P old mid → Syncs mid new → Leaves size P old new
  leaves_sync P old mid new sized run s = leaves_then size P old mid new run (leaves_step size 0 IsAsBefore P mid new (steps_sync size 0 mid new sized s) (leaves_now size P old mid run)
      (λ before cells may p ch. subst P (sym (same_cells 0 before cells ch)) p))

  -- one that failed
  pub leaves_failed : (P : List Cell → Type 0) (old mid new : DiskState) → Leaves size P old mid → IsUnchanged mid new → Leaves size P old new
  leaves_failed P old mid new run same = leaves_then size P old mid new run (leaves_unchanged size P mid new same (leaves_now size P old mid run))

  pub leaves_sync_or_not : (r : Result (Unit {0}) DiskFault) (P : List Cell → Type 0) (old mid new : DiskState) → 0 < size → Leaves size P old mid → OnOk r (Syncs mid new) → OnErr r (IsUnchanged mid new) → Leaves size P old new
  leaves_sync_or_not (Ok v) P old mid new sized run ok err = leaves_sync P old mid new sized run ok
  leaves_sync_or_not (Err e) P old mid new sized run ok err = leaves_failed P old mid new run err

  -- a sync of its own
  pub settles : (old new : DiskState) → Syncs old new → Settles size old new
  settles old new s = record { settled = settled_by_sync old new s; same = ap (λ (l : List ℕ). cells_of size l) s.seen }

  -- one step more of a run
  pub leaves_more : (k : ℕ) (S : Cell → Cell → Type 0) (P : List Cell → Type 0) (old mid new : DiskState) → Leaves size P old mid → Steps size k S mid new → ((before cells : List Cell) → P before → ChangesOne k S before cells → P cells) → Leaves size P old new
  leaves_more k S P old mid new run steps goes = leaves_then size P old mid new run (leaves_step size k S P mid new steps (leaves_now size P old mid run) (λ before cells may p ch. goes before cells p ch))

  -- erasing: the start, and one cell more
  erase_starts : (old : DiskState) (ks : List ℕ) (cells : List Cell) → MayBe size old cells → OldOrEmpty size old ks cells
  erase_starts old ks cells may = record { before = cells; was = may; count = refl; each = λ j. inl refl; others = λ j none. refl }

  pub erase_start : (old : DiskState) (ks : List ℕ) → Leaves size (OldOrEmpty size old ks) old old
  erase_start old ks = leaves_start size (OldOrEmpty size old ks) old (erase_starts old ks)

  pub erase_goes : (old : DiskState) (ks : List ℕ) (i k : ℕ) → i < length ks → k ≡ get_or ks i 0 → (before cells : List Cell) → OldOrEmpty size old ks before → ChangesOne k IsAsBeforeOrEmpty before cells → OldOrEmpty size old ks cells
  erase_goes old ks i k lt is before cells p ch = record {
    before = p.before;
    was = p.was;
    count = ch.count ∙ p.count;
    each = λ j. elim (cases_eq j k) [
      | inl here ↦ subst (λ (n : ℕ). (cell cells n ≡ cell p.before n) ⊎ (cell cells n ≡ None)) (sym here) (⊎_elim (λ same. ⊎_elim (λ as_before. inl (same ∙ as_before)) (λ empty. inr (same ∙ empty)) (p.each k)) (λ empty. inr empty) ch.here)
      | inr ne ↦ ⊎_elim (λ as_before. inl (ch.others j ne ∙ as_before)) (λ empty. inr (ch.others j ne ∙ empty)) (p.each j)
    ];
    others = λ j none. ch.others j (apart ks i k j lt is none) ∙ p.others j none;
  }

  pub erase_more : (old mid new : DiskState) (ks : List ℕ) (i k : ℕ) → i < length ks → k ≡ get_or ks i 0 → Leaves size (OldOrEmpty size old ks) old mid → Steps size k IsAsBeforeOrEmpty mid new → Leaves size (OldOrEmpty size old ks) old new
  erase_more old mid new ks i k lt is run steps = leaves_more k IsAsBeforeOrEmpty (OldOrEmpty size old ks) old mid new run steps (erase_goes old ks i k lt is)

  -- what a read gives of the erased cells: the start, and one more
  pub seen_none : (old : DiskState) (ks : List ℕ) → SeenEmptied size 0 ks old old
  seen_none old ks = record { each = λ i lt. absurd (omega arith); others = λ j none. refl }

  pub seen_emptied_more : (old mid new : DiskState) (ks : List ℕ) (i k : ℕ) → i < length ks → k ≡ get_or ks i 0 → SeenEmptied size i ks old mid → ChangesOne k IsEmptied (seen_cells size mid) (seen_cells size new) → SeenEmptied size (i + 1) ks old new
  seen_emptied_more old mid new ks i k lt is so_far ch = record {
    each = λ h h_lt. elim (cases_eq (get_or ks h 0) k) [
      | inl here ↦ subst (λ (n : ℕ). cell (seen_cells size new) n ≡ None) (sym here) ch.here
      | inr ne ↦
          let earlier : h < i = elim (cases_lt h i) [ inl before ↦ before | inr not ↦ absurd (ne (ap (λ (n : ℕ). get_or ks n 0) (last h i h_lt not) ∙ sym is)) ] in
          ch.others (get_or ks h 0) ne ∙ so_far.each h earlier
    ];
    others = λ j none. ch.others j (apart ks i k j lt is none) ∙ so_far.others j none;
  }
    where
      last : (h i : ℕ) → h < i + 1 → i ≤ h → h ≡ i
      last h i lt le = omega arith

  -- the cells after those that are emptied still read full
  pub full_after : (mid new : DiskState) (ks : List ℕ) (i k : ℕ) → AllDiffer ks → i < length ks → k ≡ get_or ks i 0 → ((h : ℕ) → i ≤ h → h < length ks → cell (seen_cells size mid) (get_or ks h 0) ≢ None)
      → ChangesOne k IsEmptied (seen_cells size mid) (seen_cells size new) → (h : ℕ) → i + 1 ≤ h → h < length ks → cell (seen_cells size new) (get_or ks h 0) ≢ None
  full_after mid new ks i k differ lt is full ch h beyond h_lt none =
      full h (omega (arith, beyond)) h_lt (sym (ch.others (get_or ks h 0) (λ same. later h beyond (differ i h lt h_lt (sym is ∙ sym same)))) ∙ none)
    where
      later : (h : ℕ) → i + 1 ≤ h → i ≡ h → ⊥
      later h beyond same = omega arith

  -- after the sync
  pub erased : (old mid new : DiskState) (ks : List ℕ) → SeenEmptied size (length ks) ks old mid → Syncs mid new → Erased size ks old new
  erased old mid new ks seen s = record {
    settled = settled_by_sync mid new s;
    each = λ i lt. same (get_or ks i 0) ∙ seen.each i lt;
    others = λ j none. same j ∙ seen.others j none;
  }
    where
      same : (j : ℕ) → cell (seen_cells size new) j ≡ cell (seen_cells size mid) j
      same j = ap (λ (l : List ℕ). cell (cells_of size l) j) s.seen

  -- bodies are staged: the cells stay
  pub stage_start : (old : DiskState) → Leaves size (MayBe size old) old old
  stage_start old = leaves_start size (MayBe size old) old (λ cells may. may)

  pub stage_more : (old mid new : DiskState) (k : ℕ) → Leaves size (MayBe size old) old mid → Steps size k IsAsBefore mid new → Leaves size (MayBe size old) old new
  stage_more old mid new k run steps = leaves_more k IsAsBefore (MayBe size old) old mid new run steps (λ before cells p ch. subst (λ (l : List Cell). MayBe size old l) (sym (same_cells k before cells ch)) p)

  -- what is closed stays closed
  pub stays_closed : (old mid : DiskState) (k : ℕ) → Leaves size (MayBe size old) old mid → IsClosed size old k → IsClosed size mid k
  stays_closed old mid k run closed cells may = closed cells (leaves_now size (MayBe size old) old mid run cells may)

  pub staged_none : (old : DiskState) (ks : List ℕ) (bodies : List (List ℕ)) → SeenStaged size 0 ks bodies old old
  staged_none old ks bodies = record { same = refl; written = λ i lt. absurd (omega arith) }

  pub staged_more : (old mid new : DiskState) (ks : List ℕ) (bodies : List (List ℕ)) (i k : ℕ) (body : List ℕ) → AllDiffer ks → i < length ks → k ≡ get_or ks i 0 → body ≡ get_or bodies i [] → SeenStaged size i ks bodies old mid
      → ChangesOne k IsAsBefore (seen_cells size mid) (seen_cells size new) → body_at size new.now.seen k ≡ body → ((j : ℕ) → j ≢ k → body_at size new.now.seen j ≡ body_at size mid.now.seen j) → SeenStaged size (i + 1) ks bodies old new
  staged_more old mid new ks bodies i k body differ lt is body_is so_far ch here others = record {
    same = same_cells k (seen_cells size mid) (seen_cells size new) ch ∙ so_far.same;
    written = λ h h_lt. elim (cases_lt h i) [
      | inl before ↦
          let ne : get_or ks h 0 ≢ k = (λ (same : get_or ks h 0 ≡ k). not_same h before (differ h i (omega arith) lt (same ∙ is))) in
          others (get_or ks h 0) ne ∙ so_far.written h before
      | inr from ↦
          let at : i ≡ h = omega arith in
          subst (λ (n : ℕ). body_at size new.now.seen (get_or ks n 0) ≡ get_or bodies n []) at (ap (λ (n : ℕ). body_at size new.now.seen n) (sym is) ∙ here ∙ body_is)
    ];
  }
    where
      not_same : (h : ℕ) → h < i → h ≡ i → ⊥
      not_same h lt same = omega arith

  -- after a sync the staged bodies are firm
  pub firm_bodies : (old mid new : DiskState) (ks : List ℕ) (bodies : List (List ℕ)) → SeenStaged size (length ks) ks bodies old mid → Syncs mid new → AreFirm size new ks bodies
  firm_bodies old mid new ks bodies staged s i lt image left =
      ap (λ (l : List ℕ). body_at size l (get_or ks i 0)) (settled_by_sync mid new s image left ∙ s.seen) ∙ staged.written i lt

  -- opening: the start, and one cell more
  pub open_start : (old : DiskState) (ks : List ℕ) (bodies : List (List ℕ)) → AreClosed size old ks → Leaves size (EmptyOrNew size old ks bodies) old old
  open_start old ks bodies closed = leaves_start size (EmptyOrNew size old ks bodies) old (λ cells may. record { before = cells; was = may; count = refl; each = λ i lt. inl (closed i lt cells may); others = λ j none. refl })

  open_goes : (old : DiskState) (ks : List ℕ) (bodies : List (List ℕ)) (i k : ℕ) → AllDiffer ks → i < length ks → k ≡ get_or ks i 0 → (before cells : List Cell) → EmptyOrNew size old ks bodies before → ChangesOne k (IsEmptyOr (get_or bodies i [])) before cells → EmptyOrNew size old ks bodies cells
  open_goes old ks bodies i k differ lt is before cells p ch = record {
    before = p.before;
    was = p.was;
    count = ch.count ∙ p.count;
    each = λ h h_lt. elim (cases_eq (get_or ks h 0) k) [
      | inl here ↦
          let at : i ≡ h = differ i h lt h_lt (sym is ∙ sym here) in
          let now : (cell cells k ≡ None) ⊎ (cell cells k ≡ Some (get_or bodies h [])) = subst (λ (n : ℕ). (cell cells k ≡ None) ⊎ (cell cells k ≡ Some (get_or bodies n []))) at ch.here in
          subst (λ (n : ℕ). (cell cells n ≡ None) ⊎ (cell cells n ≡ Some (get_or bodies h []))) (sym here) now
      | inr ne ↦ ⊎_elim (λ empty. inl (ch.others (get_or ks h 0) ne ∙ empty)) (λ new. inr (ch.others (get_or ks h 0) ne ∙ new)) (p.each h h_lt)
    ];
    others = λ j none. ch.others j (apart ks i k j lt is none) ∙ p.others j none;
  }

  pub open_more : (old mid new : DiskState) (ks : List ℕ) (bodies : List (List ℕ)) (i k : ℕ) → AllDiffer ks → i < length ks → k ≡ get_or ks i 0 → Leaves size (EmptyOrNew size old ks bodies) old mid → Steps size k (IsEmptyOr (get_or bodies i [])) mid new → Leaves size (EmptyOrNew size old ks bodies) old new
  open_more old mid new ks bodies i k differ lt is run steps = leaves_more k (IsEmptyOr (get_or bodies i [])) (EmptyOrNew size old ks bodies) old mid new run steps (open_goes old ks bodies i k differ lt is)

  pub opened_none : (old : DiskState) (ks : List ℕ) → SeenOpened size 0 ks old old
  opened_none old ks = record { bodies = λ j. refl; each = λ i lt. absurd (omega arith); others = λ j none. refl }

  pub opened_more : (old mid new : DiskState) (ks : List ℕ) (i k : ℕ) → i < length ks → k ≡ get_or ks i 0 → SeenOpened size i ks old mid → ChangesOne k (HasBody (body_at size mid.now.seen k)) (seen_cells size mid) (seen_cells size new) → ((j : ℕ) → body_at size new.now.seen j ≡ body_at size mid.now.seen j) → SeenOpened size (i + 1) ks old new
  opened_more old mid new ks i k lt is so_far ch bodies = record {
    bodies = λ j. bodies j ∙ so_far.bodies j;
    each = λ h h_lt. elim (cases_eq (get_or ks h 0) k) [
      | inl here ↦ subst (λ (n : ℕ). cell (seen_cells size new) n ≡ Some (body_at size old.now.seen n)) (sym here) (ch.here ∙ ap (λ (l : List ℕ). Some l) (so_far.bodies k))
      | inr ne ↦
          let earlier : h < i = elim (cases_lt h i) [ inl before ↦ before | inr not ↦ absurd (ne (ap (λ (n : ℕ). get_or ks n 0) (last h h_lt not) ∙ sym is)) ] in
          ch.others (get_or ks h 0) ne ∙ so_far.each h earlier
    ];
    others = λ j none. ch.others j (apart ks i k j lt is none) ∙ so_far.others j none;
  }
    where
      last : (h : ℕ) → h < i + 1 → i ≤ h → h ≡ i
      last h lt le = omega arith

  -- the whole of a run that fills: what was staged, then what was opened
  pub empty_before : (old : DiskState) (ks : List ℕ) (bodies : List (List ℕ)) → AreClosed size old ks → (cells : List Cell) → MayBe size old cells → EmptyOrNew size old ks bodies cells
  empty_before old ks bodies closed cells may = record { before = cells; was = may; count = refl; each = λ i lt. inl (closed i lt cells may); others = λ j none. refl }

  pub leaves_staged : (old mid : DiskState) (ks : List ℕ) (bodies : List (List ℕ)) → AreClosed size old ks → Leaves size (MayBe size old) old mid → Leaves size (EmptyOrNew size old ks bodies) old mid
  leaves_staged old mid ks bodies closed run = leaves_weaker size (MayBe size old) (EmptyOrNew size old ks bodies) old mid (empty_before old ks bodies closed) run

  pub leaves_opened : (old mid new : DiskState) (ks : List ℕ) (bodies : List (List ℕ)) → AreClosed size old ks → Leaves size (MayBe size old) old mid → Leaves size (EmptyOrNew size mid ks bodies) mid new → Leaves size (EmptyOrNew size old ks bodies) old new
  leaves_opened old mid new ks bodies closed staged opened = leaves_then size (EmptyOrNew size old ks bodies) old mid new (leaves_staged old mid ks bodies closed staged)
      (leaves_weaker size (EmptyOrNew size mid ks bodies) (EmptyOrNew size old ks bodies) mid new
      (λ cells p. record { before = p.before; was = leaves_now size (MayBe size old) old mid staged p.before p.was; count = p.count; each = p.each; others = p.others }) opened)

  pub closed_after : (old mid : DiskState) (ks : List ℕ) → AreClosed size old ks → Leaves size (MayBe size old) old mid → AreClosed size mid ks
  closed_after old mid ks closed run i lt = stays_closed old mid (get_or ks i 0) run (closed i lt)

  -- the run of a fill up to its last sync: bodies, a sync, gates
  pub leaves_filling : (old staged settled opened : DiskState) (ks : List ℕ) (bodies : List (List ℕ)) → 0 < size → AreClosed size old ks → Leaves size (MayBe size old) old staged → SeenStaged size (length ks) ks bodies old staged → Syncs staged settled
      → (AreFirm size settled ks bodies → AreClosed size settled ks → Leaves size (EmptyOrNew size settled ks bodies) settled opened) → Leaves size (EmptyOrNew size old ks bodies) old opened
  leaves_filling old staged settled opened ks bodies some closed run seen synced gates =
      let synced_run : Leaves size (MayBe size old) old settled = leaves_sync (MayBe size old) old staged settled some run synced in
      leaves_opened old settled opened ks bodies closed synced_run (gates (firm_bodies old staged settled ks bodies seen synced) (closed_after old settled ks closed synced_run))

  pub filled : (old staged settled opened new : DiskState) (ks : List ℕ) (bodies : List (List ℕ)) → SeenStaged size (length ks) ks bodies old staged → Syncs staged settled → SeenOpened size (length ks) ks settled opened → Syncs opened new → Filled size ks bodies old new
  filled old staged settled opened new ks bodies seen first gates last = record {
    settled = settled_by_sync opened new last;
    each = λ i lt. end (get_or ks i 0) ∙ gates.each i lt ∙ ap (λ (l : List ℕ). Some l) (ap (λ (l : List ℕ). body_at size l (get_or ks i 0)) first.seen ∙ seen.written i lt);
    others = λ j none. end j ∙ gates.others j none ∙ ap (λ (l : List ℕ). cell (cells_of size l) j) first.seen ∙ ap (λ (l : List Cell). cell l j) seen.same;
  }
    where
      end : (j : ℕ) → cell (seen_cells size new) j ≡ cell (seen_cells size opened) j
      end j = ap (λ (l : List ℕ). cell (cells_of size l) j) last.seen
