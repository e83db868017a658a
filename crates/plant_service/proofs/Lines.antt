-- The lines of a reader, answered one after another.
use Rattle.std.proofs.Common.{◌≡◌, ◌∙◌, ap, sym, refl, subst, ℕ, ◌<◌, ◌||◌, Bool, true, false, cond, List, [], ◌∷◌, ◌++◌, append_assoc, length, codes}
use Rattle.std.specs.Prelude.{Option, Some, None, IfSome}
use Rattle.std.specs.List.{list_any}
use Rattle.std.specs.Io.BufRead.{DropsThrough, drop_through}
use Rattle.std.specs.Io.KnownBytes.{Appends}
use Rattle.std.proofs.lemmas.Bool.{false≢true, lt-ltb}
use Rattle.std.proofs.lemmas.List.Folds.{list_any-append}
use Rattle.disk_model.specs.DiskState.{DiskState}
use Rattle.plant_words.specs.Lines.{is_legal_line, lines_of}
use Rattle.plant_words.specs.Words.{words_of}
use Rattle.plant_model.specs.Plant.{PlantDefinition}
use Rattle.plant_model.specs.Runs.{IsRun, fold}
use Rattle.plant_core.specs.Hands.{HandFields}
use Rattle.plant_core.specs.View.{View}
use Rattle.recorded_picks.proofs.KeptLine.{BeginsLike, begins-like, kept, no-line-kept}
use Rattle.script_lines.specs.declared.mistake.Wrong.TheVariants.{Byte}
use Rattle.plant_service.specs.Command.{command_by, command_in, ends, quits}
use Rattle.plant_service.specs.Queries.{query_text}
use Rattle.plant_service.specs.Serving.{AreLinesServed, AreServed, IsAnsweredAs, IsAtEnd}
use Rattle.plant_service.specs.declared.command.Command.{Command}
use Rattle.plant_service.specs.declared.command.Command.TheVariants.{Mistaken, TooLong}
use Rattle.plant_service.specs.declared.line_length.TheConstants.{MAX_LINE}
use Rattle.plant_service.proofs.Driving.{StandsNow, answered-as-by, leads-of}
use Rattle.plant_service.proofs.Exchanging.{none-served, one-more-served}

-- a line that is too long asks for nothing
long : (plant : PlantDefinition) (line : List ℕ) → MAX_LINE < length line → command_in plant line ≡ TooLong
long plant line many = ap (λ t. cond t TooLong (cond (is_legal_line line) (command_by plant line (words_of line)) (Mistaken (record { word = 0; wrong = Byte })))) (lt-ltb MAX_LINE (length line) many)

-- what a line asks for, and what is printed of that as a question
abbrev Said : Type 0
Said = Command × (List ℕ → View → List ℕ)

abbrev says : PlantDefinition → List ℕ → Said
says plant line = (command_in plant line, λ rules v. query_text plant rules v line (command_in plant line))

-- of lines that are too long it is the same
long-alike : (plant : PlantDefinition) (a b : List ℕ) → MAX_LINE < length a → MAX_LINE < length b → says plant a ≡ says plant b
long-alike plant a b one other =
    let first : says plant a ≡ (TooLong, λ rules v. query_text plant rules v a TooLong) = ap (λ k. (k, λ (rules : List ℕ) (v : View). query_text plant rules v a k)) (long plant a one) in
    let second : says plant b ≡ (TooLong, λ rules v. query_text plant rules v b TooLong) = ap (λ k. (k, λ (rules : List ℕ) (v : View). query_text plant rules v b k)) (long plant b other) in
    first ∙ sym second

-- it is kept of the bytes that a reader had, if they are known
abbrev pub IsKept : Option (List ℕ) → List ℕ → Type 0
IsKept old held = IfSome old (λ bytes. held ≡ kept MAX_LINE bytes)

kept-of : (left : Option (List ℕ)) (rest held : List ℕ) → left ≡ Some rest → IsKept left held → held ≡ kept MAX_LINE rest
kept-of left rest held known keeps = subst (λ o. IsKept o held) known keeps

left-of : (left new : Option (List ℕ)) (rest : List ℕ) → left ≡ Some rest → DropsThrough left new 10 → new ≡ Some (drop_through 10 rest)
left-of left new rest known drops = subst (λ o. DropsThrough o new 10) known drops

-- the first lines of these bytes were answered, none asks to end, and the device did not fail; the others are left
pub record IsServedSoFar (plant : PlantDefinition) (digest rules : List ℕ) (v : View) (s : DiskState) (hands : HandFields) (bytes : List ℕ) (left : Option (List ℕ)) (u : View) (m : DiskState) (held : HandFields) (start out : Option (List ℕ)) : Type 0 where
  pub lines : List (List ℕ)
  pub rest : List ℕ
  pub known : left ≡ Some rest
  pub in_order : lines_of bytes ≡ lines ++ lines_of rest
  pub on : list_any (quits plant) lines ≡ false
  pub served : AreServed plant digest rules v s hands lines false u m held start out

module _ (plant : PlantDefinition) (digest rules : List ℕ) where
  -- at first all lines are left
  pub all-left : (v : View) (s : DiskState) (hands : HandFields) (start : Option (List ℕ)) (given : Option (List ℕ)) → StandsNow plant digest v s
      → IfSome given (λ bytes. IsServedSoFar plant digest rules v s hands bytes given v s hands start start)
  all-left v s hands start None stands = tt
  all-left v s hands start (Some bytes) stands = record { lines = []; rest = bytes; known = refl; in_order = refl; on = refl; served = none-served plant digest rules v s hands start stands }

  module _ (v u : View) (s m : DiskState) (a b : HandFields) (start old : Option (List ℕ)) (held : List ℕ) (left : Option (List ℕ)) (keeps : IsKept left held) where
    -- the lines have ended
    pub all-served : (given : Option (List ℕ)) → lines_of held ≡ []
        → IfSome given (λ bytes. IsServedSoFar plant digest rules v s a bytes left u m b start old) → IfSome given (λ bytes. AreLinesServed plant digest rules v s a bytes false u m b start old)
    all-served None cuts so_far = tt
    all-served (Some bytes) cuts so_far =
        let none : lines_of so_far.rest ≡ [] = no-line-kept MAX_LINE so_far.rest (ap lines_of (sym (kept-of left so_far.rest held so_far.known keeps)) ∙ cuts) in
        record { lines = so_far.lines; left = []; in_order = so_far.in_order ∙ ap (λ ls. so_far.lines ++ ls) none; on = so_far.on; ended = λ sound. tt; served = so_far.served }

    module _ (typed : List ℕ) (others : List (List ℕ)) (cuts : lines_of held ≡ typed ∷ others) where
      -- the first line of what is left is the one that was typed, as far as it is kept
      begun : (rest : List ℕ) → left ≡ Some rest → BeginsLike (says plant) rest typed
      begun rest known = begins-like (says plant) MAX_LINE (long-alike plant) typed others rest (ap lines_of (sym (kept-of left rest held known keeps)) ∙ cuts)

      -- it asks to end
      pub ended-served : (command : Command) → command ≡ command_in plant typed → ends command ≡ true → (given : Option (List ℕ))
          → IfSome given (λ bytes. IsServedSoFar plant digest rules v s a bytes left u m b start old) → IfSome given (λ bytes. AreLinesServed plant digest rules v s a bytes false u m b start old)
      ended-served command asked over None so_far = tt
      ended-served command asked over (Some bytes) so_far =
          let line = begun so_far.rest so_far.known in
          record {
            lines = so_far.lines;
            left = lines_of so_far.rest;
            in_order = so_far.in_order;
            on = so_far.on;
            ended = λ sound. subst (IsAtEnd plant) (sym line.begins) (ap (λ (k : Said). ends k.0) line.same ∙ ap ends (sym asked) ∙ over);
            served = so_far.served;
          }

      module _ (w : View) (t : DiskState) (c : HandFields) (leads : v.present ≡ fold plant v.acked v.tail) (mid new : Option (List ℕ)) (rest : Option (List ℕ)) (drops : DropsThrough left rest 10)
          (command : Command) (asked : command ≡ command_in plant typed) (goes : ends command ≡ false) (failed : Bool)
          (answered : IsAnsweredAs plant digest rules u m b typed command failed w t c old mid) (closed : Appends mid new (codes "end\n")) where
        -- one line more
        more : (bytes : List ℕ) (so_far : IsServedSoFar plant digest rules v s a bytes left u m b start old)
            → (whole : List ℕ) × (lines_of so_far.rest ≡ whole ∷ lines_of (drop_through 10 so_far.rest)) × (quits plant whole ≡ false)
            × AreServed plant digest rules v s a (so_far.lines ++ whole ∷ []) failed w t c start new
        more bytes so_far =
            let line = begun so_far.rest so_far.known in
            let asks : command ≡ command_in plant line.whole = asked ∙ ap (λ (k : Said). k.0) (sym line.same) in
            let text : query_text plant rules u typed command ≡ query_text plant rules u line.whole (command_in plant line.whole) =
            ap (query_text plant rules u typed) asked ∙ ap (λ (k : Said). k.1 rules u) (sym line.same) in (
              line.whole,
              line.begins,
              ap ends (sym asks) ∙ goes,
              one-more-served plant digest rules v u w s m t a b c leads start old mid new so_far.lines typed line.whole command false failed asks text so_far.served answered closed,
            )

        none-quits : (lines : List (List ℕ)) (whole : List ℕ) → list_any (quits plant) lines ≡ false → quits plant whole ≡ false → list_any (quits plant) (lines ++ whole ∷ []) ≡ false
        none-quits lines whole on goes_on = list_any-append (quits plant) lines (whole ∷ []) ∙ ap (λ z. z || (quits plant whole || false)) on ∙ ap (λ z. z || false) goes_on

        -- the device did not fail: the others are left
        line-served : failed ≡ false → (given : Option (List ℕ))
            → IfSome given (λ bytes. IsServedSoFar plant digest rules v s a bytes left u m b start old) → IfSome given (λ bytes. IsServedSoFar plant digest rules v s a bytes rest w t c start new)
        line-served sound None so_far = tt
        line-served sound (Some bytes) so_far =
            let one = more bytes so_far in
            record {
              lines = so_far.lines ++ one.0 ∷ [];
              rest = drop_through 10 so_far.rest;
              known = left-of left rest so_far.rest so_far.known drops;
              in_order = so_far.in_order ∙ ap (λ ls. so_far.lines ++ ls) one.1 ∙ sym (append_assoc so_far.lines (one.0 ∷ []) (lines_of (drop_through 10 so_far.rest)));
              on = none-quits so_far.lines one.0 so_far.on one.2;
              served = subst (λ z. AreServed plant digest rules v s a (so_far.lines ++ one.0 ∷ []) z w t c start new) sound one.3;
            }

        -- it failed: that was the last
        last-served : failed ≡ true → (given : Option (List ℕ))
            → IfSome given (λ bytes. IsServedSoFar plant digest rules v s a bytes left u m b start old) → IfSome given (λ bytes. AreLinesServed plant digest rules v s a bytes true w t c start new)
        last-served broke None so_far = tt
        last-served broke (Some bytes) so_far =
            let one = more bytes so_far in
            record {
              lines = so_far.lines ++ one.0 ∷ [];
              left = lines_of (drop_through 10 so_far.rest);
              in_order = so_far.in_order ∙ ap (λ ls. so_far.lines ++ ls) one.1 ∙ sym (append_assoc so_far.lines (one.0 ∷ []) (lines_of (drop_through 10 so_far.rest)));
              on = none-quits so_far.lines one.0 so_far.on one.2;
              ended = λ sound. absurd (false≢true (sym sound));
              served = subst (λ z. AreServed plant digest rules v s a (so_far.lines ++ one.0 ∷ []) z w t c start new) broke one.3;
            }

-- ---- as the program reads and answers a line

-- how what is kept is cut into lines
pub cut-of : {held slice : List ℕ} {found cut : List (List ℕ)} → slice ≡ held → found ≡ lines_of slice → found ≡ cut → lines_of held ≡ cut
cut-of is finds cuts = ap lines_of (sym is) ∙ sym finds ∙ cuts

-- what a line asks of a plant by other names
pub asked-of : {x y plant : PlantDefinition} {command : Command} (typed : List ℕ) → command ≡ command_in x typed → x ≡ y → y ≡ plant → command ≡ command_in plant typed
asked-of typed reads same_plant same = reads ∙ ap (λ (p : PlantDefinition). command_in p typed) (same_plant ∙ same)

module _ {x y plant : PlantDefinition} {d digest rules typed : List ℕ} {others : List (List ℕ)} {u w : View} {m t : DiskState} {b c : HandFields} {command : Command} {failed over : Bool} {old mid : Option (List ℕ)}
    (v : View) (s : DiskState) (a : HandFields) (given left rest start new : Option (List ℕ)) (held : List ℕ) (same_plant : y ≡ plant) (same_digest : d ≡ digest) (run : IsRun plant v.acked v.tail v.present)
    (so_far : IfSome given (λ bytes. IsServedSoFar plant digest rules v s a bytes left u m b start old)) (keeps : IsKept left held) (drops : DropsThrough left rest 10)
    (cuts : lines_of held ≡ typed ∷ others) (reads : command ≡ command_in x typed) (reads_plant : x ≡ y) (is_over : over ≡ ends command) (goes : over ≡ false)
    (answered : IsAnsweredAs y d rules u m b typed command failed w t c old mid) (closed : Appends mid new (codes "end\n")) where
  -- the answer, of the same plant and text by other names
  by_name : IsAnsweredAs plant digest rules u m b typed command failed w t c old mid
  by_name = answered-as-by y plant d digest same_plant same_digest rules u w m t b c typed command failed old mid answered

  -- the device did not fail in it
  pub read-served : failed ≡ false → IfSome given (λ bytes. IsServedSoFar plant digest rules v s a bytes rest w t c start new)
  read-served sound =
      line-served plant digest rules v u s m a b start old held left keeps typed others cuts w t c (leads-of plant v run) mid new rest drops
      command (asked-of typed reads reads_plant same_plant) (sym is_over ∙ goes) failed by_name closed sound given so_far

  -- it failed
  pub read-last : failed ≡ true → IfSome given (λ bytes. AreLinesServed plant digest rules v s a bytes true w t c start new)
  read-last broke =
      last-served plant digest rules v u s m a b start old held left keeps typed others cuts w t c (leads-of plant v run) mid new rest drops
      command (asked-of typed reads reads_plant same_plant) (sym is_over ∙ goes) failed by_name closed broke given so_far
