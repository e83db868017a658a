use Rattle.std.proofs.Common.{◌≡◌, ◌<◌, ◌≤◌, ◌++◌, ◌∷◌, [], ℕ, List, Some, length, refl, sym, ◌∙◌, ap, subst, arith}
use Rattle.std.specs.List.{slice_get}
use Rattle.std.proofs.lemmas.List.{length-map}
use Rattle.record_codec.specs.declared.layout.TheConstants.{MOST_ATOMS}
use Rattle.record_codec.specs.Ring.{slot_cell}
use Rattle.record_codec.specs.Saved.{SavedFields, saved_in}
use Rattle.snapshot_writer.specs.Batches.{SlottedFields, AreOfBatch, IsBatch, bodies_of, cell_of, cells_of, full_cells_of}
use Rattle.snapshot_writer.specs.Parcels.{slot_body}
use Rattle.snapshot_writer.proofs.Batched.{batch_more, bodies_more, cells_more, full_few, full_more, full_same, has_room}
use Rattle.snapshot_writer.proofs.batch.Batch.push.Goals as goal
use Rattle.snapshot_writer.proofs.batch.Batch.push.Goals.{After-push_reserved-3}

-- there is room for a state more
room : (states now : List SlottedFields) (atom : ℕ) → states ≡ now → IsBatch states → atom < MOST_ATOMS → ((i : ℕ) (s : SlottedFields) → slice_get now i ≡ Some s → s.saved.atom < atom) → length states < MOST_ATOMS
room states now atom same is within rises = has_room states is atom within (subst (λ (batch : List SlottedFields). (i : ℕ) (s : SlottedFields) → slice_get batch i ≡ Some s → s.saved.atom < atom) (sym same) rises)

pub push_reserved-requires : goal.push_reserved-requires
push_reserved-requires c =
    let short : length c.self.inside.states.items < MOST_ATOMS = room c.self.inside.states.items c.args.self.now c.args.parcel.atom c.self.view_is c.self.invariant.parts.batch_is c.atom.ensures.in_range.atom_within c.requires.rises in
    omega (arith, short, ap (λ (l : List ℕ). length l) c.self.invariant.parts.cells_are, length-map c.self.inside.states.items cell_of, c.self.inside.cells.ok.0, c.self.invariant.room_of_cells)

pub push_reserved-requires-2 : goal.push_reserved-requires-2
push_reserved-requires-2 c =
    let short : length c.self.inside.states.items < MOST_ATOMS = room c.self.inside.states.items c.args.self.now c.args.parcel.atom c.self.view_is c.self.invariant.parts.batch_is c.atom.ensures.in_range.atom_within c.requires.rises in
    omega (arith, short, ap (λ (l : List (List ℕ)). length l) c.self.invariant.parts.bodies_are, length-map c.self.inside.states.items (λ (s : SlottedFields). slot_body s.saved), c.self.inside.bodies.ok.0, c.self.invariant.room_of_bodies)

pub push_reserved-requires-3 : goal.push_reserved-requires-3
push_reserved-requires-3 c =
    let short : length c.self.inside.states.items < MOST_ATOMS = room c.self.inside.states.items c.args.self.now c.args.parcel.atom c.self.view_is c.self.invariant.parts.batch_is c.atom.ensures.in_range.atom_within c.requires.rises in
    omega (arith, short, c.self.inside.states.ok.0, c.self.invariant.room_of_states)

pub push_reserved-requires-then-free : goal.push_reserved-requires-then-free
push_reserved-requires-then-free c =
    let short : length c.self.inside.states.items < MOST_ATOMS = room c.self.inside.states.items c.args.self.now c.args.parcel.atom c.self.view_is c.self.invariant.parts.batch_is c.atom.ensures.in_range.atom_within c.requires.rises in
    omega (arith, short, ap (λ (l : List ℕ). length l) c.self.invariant.parts.full_are, full_few c.self.inside.states.items, c.self.inside.full.ok.0, c.self.invariant.room_of_full)

-- the batch with the state is one
more : (states now : List SlottedFields) (s : SlottedFields) → states ≡ now → IsBatch states → s.slot < 2 → s.saved.atom < MOST_ATOMS → saved_in (slot_body s.saved) ≡ Some s.saved → ((i : ℕ) (t : SlottedFields) → slice_get now i ≡ Some t → t.saved.atom < s.saved.atom) → IsBatch (states ++ s ∷ [])
more states now s same is slot within reads rises = batch_more states s is (record { slot = slot; atom = within; body = record { spelled = refl; read = reads } }) (subst (λ (batch : List SlottedFields). (i : ℕ) (t : SlottedFields) → slice_get batch i ≡ Some t → t.saved.atom < s.saved.atom) (sym same) rises)

-- an entry more in two lists that are the same
listed : {A : Type 0} (xs ys : List A) (x y : A) → xs ≡ ys → x ≡ y → xs ++ x ∷ [] ≡ ys ++ y ∷ []
listed {A} xs ys x y same is = ap (λ (l : List A). l ++ x ∷ []) same ∙ ap (λ (last : A). ys ++ last ∷ []) is

-- the state that is taken
taken : After-push_reserved-3 → SlottedFields
taken c = record { slot = c.args.free.slot; full = c.args.free.full; saved = c.args.parcel }

-- it goes in this cell
its_cell : (c : After-push_reserved-3) → c.slot_cell-cell.result ≡ cell_of (taken c)
unfolding taken
its_cell c = c.slot_cell-cell.ensures ∙ ap (λ (atom : ℕ). slot_cell atom c.args.free.slot) c.atom.ensures.value

-- with it the parts are those of a batch, if the full cells are
are_parts : (c : After-push_reserved-3) (full : List ℕ) → full ≡ full_cells_of (c.self.inside.states.items ++ taken c ∷ []) → AreOfBatch c.push_reserved-3.new.self.items c.push_reserved.new.self.items full c.push_reserved-2.new.self.items
unfolding taken
are_parts c full full_is =
    let states : List SlottedFields = c.self.inside.states.items in
    let items : c.push_reserved-3.new.self.items ≡ states ++ taken c ∷ [] = c.push_reserved-3.ensures.items in
    let body : c.to_body.result ≡ slot_body c.args.parcel = c.to_body.ensures.spelled ∙ ap slot_body c.to_saved.ensures in
    record {
      batch_is = subst IsBatch (sym items) (more states c.args.self.now (taken c) c.self.view_is c.self.invariant.parts.batch_is c.requires.slot c.atom.ensures.in_range.atom_within
          (sym (ap saved_in body) ∙ c.to_body.ensures.reads_back ∙ ap (λ (saved : SavedFields). Some saved) c.to_saved.ensures) c.requires.rises);
      cells_are = c.push_reserved.ensures.items ∙ listed c.self.inside.cells.items (cells_of states) c.slot_cell-cell.result (cell_of (taken c)) c.self.invariant.parts.cells_are (its_cell c) ∙ sym (cells_more states (taken c)) ∙ ap cells_of (sym items);
      full_are = full_is ∙ ap full_cells_of (sym items);
      bodies_are = c.push_reserved-2.ensures.items ∙ listed c.self.inside.bodies.items (bodies_of states) c.to_body.result (slot_body c.args.parcel) c.self.invariant.parts.bodies_are body ∙ sym (bodies_more states (taken c)) ∙ ap bodies_of (sym items);
    }

pub invariant_of-self : goal.invariant_of-self
unfolding taken
invariant_of-self c =
    let before = (goal.at.invariant_of-self c).After-push_reserved-3 in
    let states : List SlottedFields = c.self.inside.states.items in
    record {
      parts = are_parts before c.push_reserved-then-free.new.self.items (c.push_reserved-then-free.ensures.items
          ∙ listed c.self.inside.full.items (full_cells_of states) c.slot_cell-cell.result (cell_of (taken before)) c.self.invariant.parts.full_are (its_cell before) ∙ sym (full_more states (taken before) c.if-free.true));
      room_of_states = subst (λ (n : ℕ). MOST_ATOMS ≤ n) (sym c.push_reserved-3.ensures.capacity) c.self.invariant.room_of_states;
      room_of_cells = subst (λ (n : ℕ). MOST_ATOMS ≤ n) (sym c.push_reserved.ensures.capacity) c.self.invariant.room_of_cells;
      room_of_full = subst (λ (n : ℕ). MOST_ATOMS ≤ n) (sym c.push_reserved-then-free.ensures.capacity) c.self.invariant.room_of_full;
      room_of_bodies = subst (λ (n : ℕ). MOST_ATOMS ≤ n) (sym c.push_reserved-2.ensures.capacity) c.self.invariant.room_of_bodies;
    }

pub invariant_of-self-else-free : goal.invariant_of-self-else-free
unfolding taken
invariant_of-self-else-free c =
    let before = (goal.at.invariant_of-self-else-free c).After-push_reserved-3 in
    record {
      parts = are_parts before c.self.inside.full.items (c.self.invariant.parts.full_are ∙ sym (full_same c.self.inside.states.items (taken before) c.if-free.false));
      room_of_states = subst (λ (n : ℕ). MOST_ATOMS ≤ n) (sym c.push_reserved-3.ensures.capacity) c.self.invariant.room_of_states;
      room_of_cells = subst (λ (n : ℕ). MOST_ATOMS ≤ n) (sym c.push_reserved.ensures.capacity) c.self.invariant.room_of_cells;
      room_of_full = c.self.invariant.room_of_full;
      room_of_bodies = subst (λ (n : ℕ). MOST_ATOMS ≤ n) (sym c.push_reserved-2.ensures.capacity) c.self.invariant.room_of_bodies;
    }
