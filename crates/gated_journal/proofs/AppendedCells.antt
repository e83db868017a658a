-- What appending leaves: after the live records a front of the new ones.
use Rattle.std.proofs.Common.{◌≡◌, ◌⊎◌, inl, inr, ⊎_elim, ℕ, zero, suc, ◌+◌, ◌-◌, ◌<◌, ◌≤◌, List, [], ◌∷◌, ◌++◌, length, take, get_or, if◌then◌else◌, Some, None, refl, sym, ◌∙◌, ap, subst, arith}
use Rattle.std.specs.Option.{option_and_then}
use Rattle.std.proofs.lemmas.Bool.{cases_lt, eq-eqb}
use Rattle.std.proofs.lemmas.List.{length-append, take_all}
use Rattle.disk_model.specs.declared.cells.TheConstants.{BODY}
use Rattle.disk_model.specs.DiskState.{DiskState, size_of}
use Rattle.disk_model.specs.Cells.{Cell, cell, seen_cells, IsNoneOf, IsClosed, Leaves, EmptyOrNew, EmptyOrNewAt, Filled}
use Rattle.disk_model.specs.Steps.{AreClosed}
use Rattle.disk_model.specs.Moments.{same_count, leaves_weaker, empty_or_new_seen, closed_at_rest}
use Rattle.record_codec.specs.Fired.{FiredFields, fired_in}
use Rattle.gated_journal.specs.declared.ring.Ring.{Ring}
use Rattle.gated_journal.specs.Live.{if_numbered, record_in, place, live, AreRecords, records_length}
use Rattle.gated_journal.specs.Rings.{IsRing, IsAhead, IsWhole}
use Rattle.gated_journal.specs.Stops.{IsReady, IsBeside, HasAppended, HasAppendedAll}
use Rattle.gated_journal.proofs.Fronts.{front, first_is, front_stops, front_splits}
use Rattle.gated_journal.proofs.BaseCells.{place_after, based_same}
use Rattle.gated_journal.proofs.Places.{places, places_length, places_at, none_of_places, before_places, after_places}

-- record n in the cell that holds its body
record_there : (n : ℕ) (c : Cell) (body : List ℕ) (r : FiredFields) → c ≡ Some body → fired_in body ≡ Some r → r.number ≡ n → record_in n c ≡ Some r
record_there n c body r full held numbered =
    ap (record_in n) full ∙ ap (option_and_then (if_numbered n)) held ∙ ap (λ b. if b then Some r else None) (eq-eqb r.number n numbered)

-- records in a row, without the first
records_rest : (first : ℕ) (body : List ℕ) (bodies : List (List ℕ)) (r : FiredFields) (records : List FiredFields) → AreRecords first (body ∷ bodies) (r ∷ records) → AreRecords (first + 1) bodies records
records_rest first body bodies r records are = record {
  held = let held = are.held in cc;
  numbered = let numbered = are.numbered in cc;
}

-- A front of these records is live, and the cell after it is empty.
pub record Batch (cells : ℕ → Cell) (records : List FiredFields) (first room : ℕ) : Type 0 where
  pub count : ℕ
  pub within : count ≤ length records
  pub reads : front (λ n. record_in n (cells n)) first room ≡ take count records
  pub behind : count < room → cells (first + count) ≡ None

batch_none : (cells : ℕ → Cell) (records : List FiredFields) (first room : ℕ) → (0 < room → cells (first + 0) ≡ None) → Batch cells records first room
batch_none cells records first room none = record {
  count = 0;
  within = omega arith;
  reads = front_stops (λ n. record_in n (cells n)) first room (λ some. ap (record_in first) (subst (λ (k : ℕ). cells k ≡ None) (omega arith) (none some)));
  behind = none;
}

batch_more : (cells : ℕ → Cell) (r : FiredFields) (records : List FiredFields) (first room : ℕ) → record_in first (cells first) ≡ Some r → Batch cells records (first + 1) room → Batch cells (r ∷ records) first (suc room)
batch_more cells r records first room here b = record {
  count = suc b.count;
  within = omega (arith, b.within);
  reads = first_is (λ n. record_in n (cells n)) first room (Some r) here ∙ ap (λ (l : List FiredFields). r ∷ l) b.reads;
  behind = λ some. subst (λ (k : ℕ). cells k ≡ None) (omega arith) (b.behind (omega (arith, some)));
}

-- Where each cell of a row is empty or has its body, and the one after them is empty.
pub batch : (cells : ℕ → Cell) (bodies : List (List ℕ)) (records : List FiredFields) (first room : ℕ) → AreRecords first bodies records → length bodies ≤ room
    → ((i : ℕ) → i < length bodies → (cells (first + i) ≡ None) ⊎ (cells (first + i) ≡ Some (get_or bodies i [])))
    → (length bodies < room → cells (first + length bodies) ≡ None)
    → Batch cells records first room
batch cells [] records first room are fits each behind = batch_none cells records first room behind
batch cells (body ∷ bodies) [] first room are fits each behind = absurd (let held = are.held in cc)
batch cells (body ∷ bodies) (r ∷ records) first zero are fits each behind = absurd (omega arith)
batch cells (body ∷ bodies) (r ∷ records) first (suc room) are fits each behind = ⊎_elim
    (λ none. batch_none cells (r ∷ records) first (suc room) (λ some. none))
    (λ full.
    let held : fired_in body ≡ Some r = let held = are.held in cc in
    let numbered : r.number ≡ first = let numbered = are.numbered in cc in
    let here : cells first ≡ Some body = subst (λ (k : ℕ). cells k ≡ Some body) (omega arith) full in
    batch_more cells r records first room (record_there first (cells first) body r here held numbered)
    (batch cells bodies records (first + 1) room (records_rest first body bodies r records are) (omega arith)
    (λ i within. subst (λ (k : ℕ). (cells k ≡ None) ⊎ (cells k ≡ Some (get_or bodies i []))) (omega arith) (each (suc i) (omega (arith, within))))
    (λ some. subst (λ (k : ℕ). cells k ≡ None) (omega arith) (behind (omega (arith, some))))))
    (each 0 (omega arith))

-- where all of them are full, the whole row is live
pub batch_all : (cells : ℕ → Cell) (bodies : List (List ℕ)) (records : List FiredFields) (first room : ℕ) → length bodies ≡ length records → length bodies ≤ room
    → ((i : ℕ) → i < length bodies → cells (first + i) ≡ Some (get_or bodies i []))
    → Batch cells records first room → front (λ n. record_in n (cells n)) first room ≡ records
batch_all cells bodies records first room as_many fits each b = elim (cases_lt b.count (length records)) [
  | inl short ↦ absurd (let empty : cells (first + b.count) ≡ None = b.behind (omega (arith, short, as_many, fits)) in let full = each b.count (omega (arith, short, as_many)) in cc)
  | inr long ↦ b.reads ∙ take_all b.count records long
]

-- The journal j is appended to, whose cells were these.
module _ (j : Ring) (ring : IsRing j) (before : List Cell) (whole : IsWhole j before) (ahead : (n : ℕ) → IsAhead j n → cell before (place j n) ≡ None) (bodies : List (List ℕ)) (news : List FiredFields) (are : AreRecords (j.last + 1) bodies news) (fits : j.last + length bodies < j.base + j.ring) where
  beside_places : (k : ℕ) → IsBeside j (length news) k → IsNoneOf (places j (j.last + 1) (length bodies)) k
  beside_places k beside = none_of_places j (j.last + 1) (length bodies) k (λ n from to. beside n (omega (arith, from)) (omega (arith, to, records_length (j.last + 1) bodies news are)))

  module _ (cells : List Cell) (left : EmptyOrNewAt (places j (j.last + 1) (length bodies)) bodies before cells) where
    new_cells : ℕ → Cell
    new_cells n = cell cells (place j n)

    batch_of : (room : ℕ) → j.last + 1 + room ≡ j.base + j.ring → Batch (λ n. cell cells (place j n)) news (j.last + 1) room
    batch_of room to_end = batch (λ n. cell cells (place j n)) bodies news (j.last + 1) room are (omega (arith, to_end, fits))
        (λ i within.
        let inside : i < length (places j (j.last + 1) (length bodies)) = omega (arith, within, places_length j (j.last + 1) (length bodies)) in
        subst (λ (k : ℕ). (cell cells k ≡ None) ⊎ (cell cells k ≡ Some (get_or bodies i []))) (places_at j (j.last + 1) (length bodies) i (j.last + 1 + i) inside refl) (left.each i inside))
        (λ some.
        let n : ℕ = j.last + 1 + length bodies in
        left.others (place j n) (after_places j (j.last + 1) (length bodies) n (omega arith) (omega (arith, to_end, some, ring.base_to)))
        ∙ ahead n (record { from = omega arith; to = omega (arith, to_end, some) }))

    goes_on : (room : ℕ) → j.last + 1 + room ≡ j.base + j.ring → live j cells ≡ live j before ++ front (λ n. record_in n (cell cells (place j n))) (j.last + 1) room
    goes_on room to_end = front_splits (λ n. record_in n (cell cells (place j n))) (λ n. record_in n (cell before (place j n))) j.base j.ring j.ring (length (live j before)) (j.last + 1) room refl whole (omega (arith, whole, to_end))
        (λ n from to. ap (record_in n) (left.others (place j n) (before_places j (j.last + 1) (length bodies) n to (omega (arith, from, fits)))))

    pub has_appended : HasAppended j news before cells
    has_appended =
        let room : ℕ = j.base + j.ring - (j.last + 1) in
        let to_end : j.last + 1 + room ≡ j.base + j.ring = omega (arith, ring.room) in
        let b : Batch (λ n. cell cells (place j n)) news (j.last + 1) room = batch_of room to_end in
        record {
          size = left.count;
          based = based_same j before cells ring (λ k low. left.others k (beside_places k (λ n from to. place_after j n k low)));
          count = b.count;
          within = b.within;
          reads = goes_on room to_end ∙ ap (λ (l : List FiredFields). live j before ++ l) b.reads;
          behind = λ next. subst (λ (n : ℕ). cell cells (place j n) ≡ None) (omega arith) (b.behind (omega (arith, next.to, to_end)));
          others = λ k beside. left.others k (beside_places k beside);
        }

pub has_appended_all : (j : Ring) (bodies : List (List ℕ)) (news : List FiredFields) (old new : DiskState) → IsRing j → IsReady j old → AreRecords (j.last + 1) bodies news → j.last + length bodies < j.base + j.ring → size_of new ≡ size_of old
    → Filled (BODY + 1) (places j (j.last + 1) (length bodies)) bodies old new → HasAppendedAll j news old new
has_appended_all j bodies news old new ring ready are fits same f =
    let before : List Cell = seen_cells (BODY + 1) old in
    let cells : List Cell = seen_cells (BODY + 1) new in
    let row : List ℕ = places j (j.last + 1) (length bodies) in
    let left : EmptyOrNewAt row bodies before cells = record { count = same_count (BODY + 1) old new same; each = λ i within. inr (f.each i within); others = f.others } in
    let room : ℕ = j.base + j.ring - (j.last + 1) in
    let to_end : j.last + 1 + room ≡ j.base + j.ring = omega (arith, ring.room) in
    let as_many : length bodies ≡ length news = records_length (j.last + 1) bodies news are in
    let b : Batch (λ n. cell cells (place j n)) news (j.last + 1) room = batch_of j ring before ready.whole ready.ahead bodies news are fits cells left room to_end in
    let all : front (λ n. record_in n (cell cells (place j n))) (j.last + 1) room ≡ news = batch_all (λ n. cell cells (place j n)) bodies news (j.last + 1) room as_many (omega (arith, to_end, fits))
    (λ i within.
    let inside : i < length row = omega (arith, within, places_length j (j.last + 1) (length bodies)) in
    subst (λ (k : ℕ). cell cells k ≡ Some (get_or bodies i [])) (places_at j (j.last + 1) (length bodies) i (j.last + 1 + i) inside refl) (f.each i inside)) b in
    let reads : live j cells ≡ live j before ++ news = goes_on j ring before ready.whole ready.ahead bodies news are fits cells left room to_end ∙ ap (λ (l : List FiredFields). live j before ++ l) all in
    record {
      ready = record {
        settled = f.settled;
        whole = omega (arith, ap (λ (l : List FiredFields). length l) reads, length-append (live j before) news, ready.whole);
        ahead = λ n later.
            f.others (place j n) (after_places j (j.last + 1) (length bodies) n (omega (arith, later.from, as_many)) (omega (arith, later.to, ring.base_to)))
            ∙ ready.ahead n (record { from = omega (arith, later.from); to = later.to });
      };
      based = based_same j before cells ring (λ k low. f.others k (beside_places j ring before ready.whole ready.ahead bodies news are fits k (λ n from to. place_after j n k low)));
      reads = reads;
      others = λ k beside. f.others k (beside_places j ring before ready.whole ready.ahead bodies news are fits k beside);
    }

-- and so of every stop inside the call
pub append_leaves : (j : Ring) (bodies : List (List ℕ)) (news : List FiredFields) (old new : DiskState) → IsRing j → IsReady j old → AreRecords (j.last + 1) bodies news → j.last + length bodies < j.base + j.ring
    → Leaves (BODY + 1) (EmptyOrNew (BODY + 1) old (places j (j.last + 1) (length bodies)) bodies) old new → Leaves (BODY + 1) (HasAppended j news (seen_cells (BODY + 1) old)) old new
append_leaves j bodies news old new ring ready are fits run = leaves_weaker (BODY + 1) (EmptyOrNew (BODY + 1) old (places j (j.last + 1) (length bodies)) bodies) (HasAppended j news (seen_cells (BODY + 1) old)) old new
    (λ cells p. has_appended j ring (seen_cells (BODY + 1) old) ready.whole ready.ahead bodies news are fits cells (empty_or_new_seen (BODY + 1) old (places j (j.last + 1) (length bodies)) bodies cells ready.settled p)) run

-- the cells of the new records are closed
pub places_closed : (j : Ring) (count : ℕ) (s : DiskState) → IsReady j s → j.last + count < j.base + j.ring → AreClosed (BODY + 1) s (places j (j.last + 1) count)
places_closed j count s ready fits i within =
    let n : ℕ = j.last + 1 + i in
    let at : get_or (places j (j.last + 1) count) i 0 ≡ place j n = places_at j (j.last + 1) count i n within refl in
    subst (λ (k : ℕ). IsClosed (BODY + 1) s k) (sym at) (closed_at_rest (BODY + 1) s (place j n) ready.settled (ready.ahead n (record { from = omega arith; to = omega (arith, within, places_length j (j.last + 1) count, fits) })))
