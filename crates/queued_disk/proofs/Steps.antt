-- Bytes that come behind change no step.
use Rattle.std.proofs.Common.{◌≡◌, ◌⊎◌, inl, inr, ⊎_elim, refl, ◌∙◌, ap, ℕ, suc, ◌≤◌, ◌-◌, false, if◌then◌else◌, List, [], ◌∷◌, ◌++◌, map, length, arith}
use Rattle.std.specs.Prelude.{Some, None, Result, Ok, Err, OnOk, take, drop}
use Rattle.std.proofs.Math.Seq.{drop-append_seam, take-length}
use Rattle.std.proofs.lemmas.List.{drop-append-le, take-append-le, length-append, length-drop, map-append}
use Rattle.queued_disk.specs.Queued.{AreWithin}
use Rattle.queued_disk.specs.Steps.{IsAdded, step_of, steps_in}
use Rattle.queued_disk.specs.declared.queue.Entry.{Entry}
use Rattle.queued_disk.specs.declared.queue.Queue.{Queue}

-- bytes within others are the same among more
same_bytes : (bytes more : List ℕ) (first end : ℕ) → first ≤ end → end ≤ length bytes → take (end - first) (drop first (bytes ++ more)) ≡ take (end - first) (drop first bytes)
same_bytes bytes more first end ordered within =
    ap (take (end - first)) (drop-append-le first bytes more (omega (arith, ordered, within)))
    ∙ take-append-le (end - first) (drop first bytes) more (omega (arith, ordered, within, length-drop first bytes))

pub same_steps : (bytes more : List ℕ) (entries : List Entry) → AreWithin entries bytes → map (step_of (bytes ++ more)) entries ≡ map (step_of bytes) entries
same_steps bytes more [] within = refl
same_steps bytes more (e ∷ es) within =
    let here = within 0 e refl in
    ap (λ b. (if e.is_sync then None else Some (e.at, b)) ∷ map (step_of (bytes ++ more)) es) (same_bytes bytes more e.first e.end here.0 here.1)
    ∙ ap (λ rest. step_of bytes e ∷ rest) (same_steps bytes more es (λ i f is. within (suc i) f is))

-- the bytes that were added last
pub last_bytes : (bytes more : List ℕ) → take (length (bytes ++ more) - length bytes) (drop (length bytes) (bytes ++ more)) ≡ more
last_bytes bytes more =
    ap (take (length (bytes ++ more) - length bytes)) (drop-append_seam bytes more)
    ∙ ap (λ n. take n more) (omega (arith, length-append bytes more))
    ∙ take-length more

-- a write that is added behind the others
pub added : (before after : Queue) (entries : List Entry) (bytes more : List ℕ) (e : Entry) → AreWithin entries bytes
    → ((entries ≡ before.entries.items) × (bytes ≡ before.bytes.items)) ⊎ ((entries ≡ []) × (bytes ≡ []))
    → after.entries.items ≡ entries ++ e ∷ [] → after.bytes.items ≡ bytes ++ more → e.first ≡ length bytes → e.end ≡ length (bytes ++ more) → e.is_sync ≡ false
    → IsAdded (Some (e.at, more)) (steps_in before) (steps_in after)
added before after entries bytes more e within begun es bs first end is_write =
    let step : step_of (bytes ++ more) e ≡ Some (e.at, more) =
    ap (λ y. if y then None else Some (e.at, take (e.end - e.first) (drop e.first (bytes ++ more)))) is_write
    ∙ ap (λ k. Some (e.at, take (e.end - k) (drop k (bytes ++ more)))) first ∙ ap (λ k. Some (e.at, take (k - length bytes) (drop (length bytes) (bytes ++ more)))) end
    ∙ ap (λ b. Some (e.at, b)) (last_bytes bytes more) in
    let all : steps_in after ≡ map (step_of bytes) entries ++ Some (e.at, more) ∷ [] =
    ap (λ b. map (step_of b) after.entries.items) bs ∙ ap (map (step_of (bytes ++ more))) es ∙ map-append (step_of (bytes ++ more)) entries (e ∷ [])
    ∙ ap (λ xs. xs ++ step_of (bytes ++ more) e ∷ []) (same_steps bytes more entries within) ∙ ap (λ x. map (step_of bytes) entries ++ x ∷ []) step in
    ⊎_elim
    (λ same. inl (all ∙ ap (λ es. map (step_of bytes) es ++ Some (e.at, more) ∷ []) same.0 ∙ ap (λ b. map (step_of b) before.entries.items ++ Some (e.at, more) ∷ []) same.1))
    (λ empty. inr (all ∙ ap (λ es. map (step_of bytes) es ++ Some (e.at, more) ∷ []) empty.0))
    begun

-- what follows from an answer at Ok
pub on_ok : {T E : Type 0} {P Q : Type 0} (r : Result T E) → OnOk r P → (P → Q) → OnOk r Q
on_ok (Ok x) p f = f p
on_ok (Err x) p f = tt
