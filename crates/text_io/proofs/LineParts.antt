-- A line that is read part by part, and kept as far as there is room.
use Rattle.std.proofs.Common.{◌≡◌, ◌≢◌, ℕ, zero, suc, ◌+◌, ◌≤◌, min, true, false, refl, sym, ◌∙◌, ap, List, [], ◌∷◌, ◌++◌, length, take, All, IfSome, arith, length-take}
use Rattle.std.specs.Prelude.{Option, Some, None, Result, Ok, Err, IsOk, OnOk}
use Rattle.std.specs.Io.BufRead.{drop_through, take_through, DropsThrough}
use Rattle.std.specs.Io.KnownBytes.{Consumes}
use Rattle.std.proofs.BufReadLemmas.{Consumes_through, drop_through-append, take_through-append}
use Rattle.std.proofs.KnownBytes.{Consumes-trans}
use Rattle.std.proofs.Math.Seq.{take-append-add}
use Rattle.std.proofs.lemmas.Bool.{false≢true}
use Rattle.std.proofs.lemmas.List.{take-append-le, take_min}
use Rattle.std.proofs.lemmas.List.Elements.{All-append}
use Rattle.std.proofs.lemmas.Option.{IfSome_then}
use Rattle.text_io.specs.LineParts.{TakesPart}

-- what holds where something went well
pub well-done : {A E P : Type 0} (result : Result A E) → IsOk result → OnOk result P → P
well-done (Ok x) well holds = holds
well-done (Err e) well holds = absurd (false≢true well)

-- bytes are kept as far as there is room for them
pub kept-as-far : (most : ℕ) (items bytes : List ℕ) (room n : ℕ) → room + length items ≡ most → n ≡ min (length bytes) room → items ++ take n bytes ≡ take most (items ++ bytes)
kept-as-far most items bytes room n left many =
    let whole : most ≡ length items + room = omega (arith, left) in
    let e : n ≡ min room (length bytes) = omega (arith, many) in
    let same : take n bytes ≡ take room bytes = ap (λ k. take k bytes) e ∙ take_min room bytes in
    sym (ap (λ k. take k (items ++ bytes)) whole ∙ take-append-add items bytes room ∙ ap (λ l. items ++ l) (sym same))

-- what is kept of a front and more is what is kept of what was kept of the front, and more
kept-again : (n : ℕ) (xs ys : List ℕ) → take n (take n xs ++ ys) ≡ take n (xs ++ ys)
kept-again zero xs ys = refl
kept-again (suc n) [] ys = refl
kept-again (suc n) (x ∷ xs) ys = ap (λ l. x ∷ l) (kept-again n xs ys)

-- bytes were passed, none of them a line feed, and kept as far as there is room
pub record IsReadSoFar (most : ℕ) (old now : Option (List ℕ)) (line : List ℕ) : Type 0 where
  pub passed : List ℕ
  pub taken : Consumes old now passed
  pub unended : All (λ byte. byte ≢ 10) passed
  pub kept : line ≡ take most passed

module _ (most : ℕ) (old now new : Option (List ℕ)) (before after : List ℕ) (so_far : IsReadSoFar most old now before) where
  -- what is kept of all that was passed and of a part more
  together : (part : List ℕ) → after ≡ take most (before ++ part) → after ≡ take most (so_far.passed ++ part)
  together part kept = kept ∙ ap (λ line. take most (line ++ part)) so_far.kept ∙ kept-again most so_far.passed part

  -- a part more, of which no byte is a line feed
  pub part-more : TakesPart most now new before after false → IsReadSoFar most old new after
  part-more t = record {
    passed = so_far.passed ++ t.part;
    taken = Consumes-trans old now new so_far.passed t.part so_far.taken t.taken;
    unended = All-append (λ byte. byte ≢ 10) so_far.passed t.part so_far.unended (t.unended refl);
    kept = together t.part t.kept;
  }

  -- the last part
  module _ (t : TakesPart most now new before after true) where
    whole : IfSome old (λ bytes. so_far.passed ++ t.part ≡ take_through 10 bytes) × DropsThrough old new 10
    whole = Consumes_through 10 old now new so_far.passed t.part so_far.taken so_far.unended t.taken t.stops (t.ended refl) (t.at_end refl)

    pub line-kept : IfSome old (λ bytes. after ≡ take most (take_through 10 bytes))
    line-kept = IfSome_then old whole.0 (λ bytes same. together t.part t.kept ∙ ap (take most) same)

    pub line-left : DropsThrough old new 10
    line-left = whole.1

-- the line is full, and the rest of it is passed over
pub full-line : (most : ℕ) (old now new : Option (List ℕ)) (line : List ℕ) → IsReadSoFar most old now line → length line ≡ most → DropsThrough now new 10
    → IfSome old (λ bytes. line ≡ take most (take_through 10 bytes)) × DropsThrough old new 10
full-line most None now new line so_far full skipped = (tt, tt)
full-line most (Some all) None new line so_far full skipped = absurd so_far.taken
full-line most (Some all) (Some left) new line so_far full skipped =
    let passed = so_far.passed in
    let long : most ≤ length passed = omega (arith, full, ap length so_far.kept, length-take most passed) in
    let begins : take_through 10 all ≡ passed ++ take_through 10 left = ap (take_through 10) so_far.taken ∙ take_through-append 10 passed left so_far.unended in
    let rest : drop_through 10 all ≡ drop_through 10 left = ap (drop_through 10) so_far.taken ∙ drop_through-append 10 passed left so_far.unended in
    (so_far.kept ∙ sym (ap (take most) begins ∙ take-append-le most passed (take_through 10 left) long), skipped ∙ ap Some (sym rest))
