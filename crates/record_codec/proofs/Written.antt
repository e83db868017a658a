-- What a writer holds: the bytes so far and zeros after them.
use Rattle.std.proofs.Common.{◌≡◌, ℕ, ◌+◌, ◌-◌, ◌≤◌, ◌<◌, List, ◌++◌, length, take, drop, get_or, refl, sym, ap, ◌∙◌, arith, append_assoc}
use Rattle.std.proofs.lemmas.List.{drop-drop, drop-replicate, take-append-drop, length-take-le, length-append, length-replicate, replicate-append-replicate, take_at, drop_at, flat_map_more, take_more}
use Rattle.std.specs.List.{flat_map}
use Rattle.std.proofs.lemmas.Slice.{take-put_mid, drop-put_mid}
use borrow.Rule.Slice.PartMut.{put_mid}
use Rattle.record_codec.specs.Bytes.{zeros, padded}

-- zeros without their first ones are zeros
pub drop-zeros : (k n : ℕ) → drop k (zeros n) ≡ zeros (n - k)
unfolding zeros
drop-zeros k n = drop-replicate k n 0

pub length-zeros : (n : ℕ) → length (zeros n) ≡ n
unfolding zeros
length-zeros n = length-replicate n 0

-- after what is written at the end of the bytes so far stand zeros
pub zeros_after : (body bytes : List ℕ) (at len : ℕ) → length body ≡ len → at + length bytes ≤ len → drop at body ≡ zeros (len - at) → drop (at + length bytes) (put_mid at (at + length bytes - at) body bytes) ≡ zeros (len - (at + length bytes))
zeros_after body bytes at len is_len fits rest =
    let size : length bytes ≡ at + length bytes - at = omega arith in
    drop-put_mid at (at + length bytes - at) body bytes (at + length bytes) (omega arith) (omega arith) size
    ∙ sym (drop-drop (length bytes) at body)
    ∙ ap (drop (length bytes)) rest
    ∙ drop-zeros (length bytes) (len - at)
    ∙ ap zeros (omega arith)

-- the bytes so far and those that are written are what is written then
pub written_then : (body bytes : List ℕ) (at : ℕ) → at + length bytes ≤ length body → take (at + length bytes) (put_mid at (at + length bytes - at) body bytes) ≡ take at body ++ bytes
written_then body bytes at fits =
    take-put_mid at (at + length bytes - at) body bytes (at + length bytes) refl (omega arith)

-- the bytes so far and the zeros after them are the whole
pub padded-take : (body : List ℕ) (at len : ℕ) → length body ≡ len → at ≤ len → drop at body ≡ zeros (len - at) → body ≡ padded len (take at body)
unfolding padded
padded-take body at len is_len fits rest =
    let size : length (take at body) ≡ at = length-take-le at body (omega arith) in
    sym (take-append-drop at body) ∙ ap (λ (tail : List ℕ). take at body ++ tail) (rest ∙ ap (λ (n : ℕ). zeros (len - n)) (sym size))

pub length-padded : (len : ℕ) (bytes : List ℕ) → length bytes ≤ len → length (padded len bytes) ≡ len
unfolding padded
length-padded len bytes fits = omega (arith, length-append bytes (zeros (len - length bytes)), length-zeros (len - length bytes))

-- a spelling and its zeros, as a front and a rest
pub padded_is : (len : ℕ) (bytes : List ℕ) → padded len bytes ≡ bytes ++ zeros (len - length bytes)
unfolding padded
padded_is len bytes = refl

-- room after the bytes so far is room after the place where they end
pub room_for : (body front : List ℕ) (at more len : ℕ) → length body ≡ len → at ≤ len → take at body ≡ front → length front + more ≤ len → at + more ≤ len
room_for body front at more len is_len within is_front room =
    omega (arith, ap length is_front, length-take-le at body (omega arith))

-- what is padded to a length is padded to its own length
pub padded_to_own : (len : ℕ) (bytes : List ℕ) → length bytes ≤ len → padded len bytes ≡ padded (length (padded len bytes)) bytes
padded_to_own len bytes fits = ap (λ (n : ℕ). padded n bytes) (sym (length-padded len bytes fits))

-- one more item written at the end of a run
pub run_more : {X : Type 0} (f : X → List ℕ) (front now : List ℕ) (xs : List X) (i : ℕ) (d : X) → i < length xs → now ≡ front ++ flat_map f (take i xs) → now ++ f (get_or xs i d) ≡ front ++ flat_map f (take (i + 1) xs)
run_more {X} f front now xs i d lt is =
    ap (λ (bytes : List ℕ). bytes ++ f (get_or xs i d)) is
    ∙ flat_map_more f front (take i xs) (get_or xs i d)
    ∙ ap (λ (done : List X). front ++ flat_map f done) (sym (take_more xs i d lt))

zeros-append : (m n : ℕ) → zeros m ++ zeros n ≡ zeros (m + n)
unfolding zeros
zeros-append m n = replicate-append-replicate m n 0

-- a front that is padded is there again
pub take-padded : (len at : ℕ) (front : List ℕ) → at ≡ length front → take at (padded len front) ≡ front
unfolding padded
take-padded len at front is = take_at front (zeros (len - length front)) at (sym is)

-- bytes with zeros after them, written over the zeros after a front, pad the front and the bytes
pub padded_over : (front bytes : List ℕ) (at more len : ℕ) → at ≡ length front → at + more ≤ len → length bytes ≤ more → put_mid at (at + more - at) (padded len front) (padded more bytes) ≡ padded len (front ++ bytes)
unfolding padded
padded_over front bytes at more len is room few =
    let here : List ℕ = zeros (more - length bytes) in
    let after : List ℕ = zeros (len - length front) in
    let kept : take at (front ++ after) ≡ front = take_at front after at (sym is) in
    let behind : drop at (front ++ after) ≡ after = drop_at front after at (sym is) in
    let left : drop (at + more - at) after ≡ zeros (len - length front - (at + more - at)) = drop-zeros (at + more - at) (len - length front) in
    let total : length (front ++ bytes) ≡ length front + length bytes = length-append front bytes in
    rw (kept, behind, left)
    (ap (λ (tail : List ℕ). front ++ tail) (append_assoc bytes here (zeros (len - length front - (at + more - at)))
    ∙ ap (λ (tail : List ℕ). bytes ++ tail) (zeros-append (more - length bytes) (len - length front - (at + more - at)) ∙ ap zeros (omega arith)))
    ∙ sym (append_assoc front bytes (zeros (len - length (front ++ bytes)))))

-- the same at the front of zeros
pub padded_first : (bytes body : List ℕ) (more : ℕ) → length bytes ≤ more → more ≤ length body → body ≡ zeros (length body) → padded more bytes ++ drop more body ≡ padded (length body) bytes
unfolding padded
padded_first bytes body more few room clear =
    ap (λ (tail : List ℕ). padded more bytes ++ tail) (ap (drop more) clear ∙ drop-zeros more (length body))
    ∙ append_assoc bytes (zeros (more - length bytes)) (zeros (length body - more))
    ∙ ap (λ (tail : List ℕ). bytes ++ tail) (zeros-append (more - length bytes) (length body - more) ∙ ap zeros (omega arith))
