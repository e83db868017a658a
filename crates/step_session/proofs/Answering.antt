-- Lines that are answered one after another.
use Rattle.std.proofs.Common.{◌≡◌, ◌∙◌, ap, sym, refl, subst, ℕ, Bool, true, false, List, [], ◌∷◌, ◌++◌}
use Rattle.std.specs.Prelude.{Option, Some, None, IfSome}
use Rattle.std.specs.Io.BufRead.{DropsThrough, drop_through}
use Rattle.std.specs.Io.KnownBytes.{Appends, Keeps}
use Rattle.std.proofs.KnownBytes.{Appends-kept, Appends-nil, Appends-trans}
use Rattle.plant_words.specs.Lines.{lines_of}
use Rattle.plant_model.specs.Plant.{PlantDefinition}
use Rattle.step_session.specs.Answers.{answer_text, savings_of}
use Rattle.step_session.specs.Command.{CommandDefinition, command_in, ends}
use Rattle.step_session.specs.Mark.{end_text, ended_text, last_text, prompt_text}
use Rattle.step_session.specs.Session.{SessionDefinition}
use Rattle.step_session.specs.Transcript.{IsAnswered, IsTranscript, Transcript, nothing_more, after_text, transcript_by, transcript_from}
use Rattle.recorded_picks.proofs.KeptLine.{BeginsLike, kept, no-line-kept}
use Rattle.step_session.specs.declared.lines.TheConstants.{MAX_LINE}
use Rattle.step_session.specs.declared.mark.Mark.{Mark}
use Rattle.step_session.proofs.FirstLine.{IsKept, begins-as-kept}
use Rattle.step_session.proofs.SoFar.{IsSoFar, all-left, all-told, piece-told, said_of, printed-last, told-on}

-- of the lines of the bytes that a reader gave, the answers so far are told, and the lines of the bytes that it has left are left
pub record IsToldSoFar {S : Type 0} (saves : S → List ℕ → List ℕ → Bool → S → Type 0) (plant : PlantDefinition) (rules : List ℕ) (mark : Mark) (first now : SessionDefinition) (bytes : List ℕ) (left : Option (List ℕ)) (before saver : S) (start out : Option (List ℕ)) : Type 0 where
  pub rest : List ℕ
  pub known : left ≡ Some rest
  pub so_far : IsSoFar saves (transcript_from plant rules mark first (lines_of bytes)) (transcript_from plant rules mark now (lines_of rest)) before saver start out

-- what is kept of a reader's bytes, where they are known
kept-of : (left : Option (List ℕ)) (rest held : List ℕ) → left ≡ Some rest → IsKept left held → held ≡ kept MAX_LINE rest
kept-of left rest held known keeps = subst (λ o. IsKept o held) known keeps

left-of : (left new : Option (List ℕ)) (rest : List ℕ) → left ≡ Some rest → DropsThrough left new 10 → new ≡ Some (drop_through 10 rest)
left-of left new rest known drops = subst (λ o. DropsThrough o new 10) known drops

module _ {S : Type 0} (saves : S → List ℕ → List ℕ → Bool → S → Type 0) (plant : PlantDefinition) (rules : List ℕ) (mark : Mark) (first : SessionDefinition) (a : S) (start : Option (List ℕ)) where
  -- at first all lines are left
  pub all-lines-left : (given : Option (List ℕ)) → IfSome given (λ bytes. IsToldSoFar saves plant rules mark first first bytes given a a start start)
  all-lines-left None = tt
  all-lines-left (Some bytes) = record { rest = bytes; known = refl; so_far = all-left saves (transcript_from plant rules mark first (lines_of bytes)) a start }

  module _ (now : SessionDefinition) (b : S) (out prompted flushed : Option (List ℕ)) (shown : Appends out prompted (prompt_text mark)) (handed : Keeps prompted flushed) where
    -- a prompt, and a text after it
    behind-prompt : (new : Option (List ℕ)) (text : List ℕ) → Appends flushed new text → Appends out new (prompt_text mark ++ text)
    behind-prompt new text printed = Appends-trans out flushed new (prompt_text mark) text (Appends-kept out prompted flushed (prompt_text mark) shown handed) printed

    module _ (held : List ℕ) (left : Option (List ℕ)) (keeps : IsKept left held) where
      module _ (typed : List ℕ) (others : List (List ℕ)) (cuts : lines_of held ≡ typed ∷ others) (rest : Option (List ℕ)) (drops : DropsThrough left rest 10)
          (after : SessionDefinition) (command : CommandDefinition) (c : S) (new ended : Option (List ℕ)) (asked : command ≡ command_in typed) (answered : IsAnswered saves plant rules now command after b c flushed new) (marked : Appends new ended (end_text mark)) where
        -- the answer is printed, and what tells where it ends
        abbrev answer : List ℕ
        answer = answer_text plant rules now answered.said command

        abbrev piece : List ℕ
        piece = prompt_text mark ++ ended_text mark answer

        printed-piece : Appends out ended piece
        printed-piece = behind-prompt ended (ended_text mark answer) (Appends-trans flushed new ended answer (end_text mark) answered.printed marked)

        -- the first line of what is left is the one that was typed, as far as it is kept
        begun : (bytes : List ℕ) → left ≡ Some bytes → BeginsLike command_in bytes typed
        begun bytes known = begins-as-kept typed others bytes (ap lines_of (sym (kept-of left bytes held known keeps)) ∙ cuts)

        -- so the command is told first, and then the lines after it
        told-first : (bytes : List ℕ) (known : left ≡ Some bytes) (answers : List Bool)
            → transcript_from plant rules mark now (lines_of bytes) answers
            ≡ transcript_by plant rules mark now command (λ later more. transcript_from plant rules mark later (lines_of (drop_through 10 bytes)) more) answers
        told-first bytes known answers =
            let line = begun bytes known in
            ap (λ ls. transcript_from plant rules mark now ls answers) line.begins ∙
            ap (λ k. transcript_by plant rules mark now k (λ later more. transcript_from plant rules mark later (lines_of (drop_through 10 bytes)) more) answers) (line.same ∙ sym asked)

        -- the command is answered, and the session goes on
        pub line-told : (given : Option (List ℕ)) → ends command ≡ false
            → IfSome given (λ bytes. IsToldSoFar saves plant rules mark first now bytes left a b start out)
            → IfSome given (λ bytes. IsToldSoFar saves plant rules mark first after bytes rest a c start ended)
        line-told None on transcript = tt
        line-told (Some bytes) on transcript =
            let own = savings_of plant now answered.said command in
            let later = lines_of (drop_through 10 transcript.rest) in
            record {
              rest = drop_through 10 transcript.rest;
              known = left-of left rest transcript.rest transcript.known drops;
              so_far = piece-told saves (transcript_from plant rules mark first (lines_of bytes)) (transcript_from plant rules mark now (lines_of transcript.rest)) (transcript_from plant rules mark after later) a b c start out ended piece own transcript.so_far
                  printed-piece answered.saved
                  (λ more.
                  told-first transcript.rest transcript.known (said_of own ++ more) ∙
                  told-on plant rules mark now command (λ s answers. transcript_from plant rules mark s later answers) answered.said more on ∙
                  ap (λ s. after_text piece own (transcript_from plant rules mark s later more)) (sym answered.session_is));
            }

        -- it is answered, and the session ends
        pub last-told : (given end : Option (List ℕ)) → ends command ≡ true → Keeps ended end
            → IfSome given (λ bytes. IsToldSoFar saves plant rules mark first now bytes left a b start out)
            → IfSome given (λ bytes. IsTranscript saves (transcript_from plant rules mark first (lines_of bytes)) a c start end)
        last-told None end over flushed_last transcript = tt
        last-told (Some bytes) end over flushed_last transcript =
            let own = savings_of plant now answered.said command in
            let later = lines_of (drop_through 10 transcript.rest) in
            let no_more : List Bool → Transcript = λ answers. nothing_more in
            all-told saves (transcript_from plant rules mark first (lines_of bytes)) no_more a c start ended end []
            (piece-told saves (transcript_from plant rules mark first (lines_of bytes)) (transcript_from plant rules mark now (lines_of transcript.rest)) no_more a b c start out ended piece own transcript.so_far
            printed-piece answered.saved
            (λ more.
            told-first transcript.rest transcript.known (said_of own ++ more) ∙
            printed-last plant rules mark now command (λ s answers. transcript_from plant rules mark s later answers) answered.said more over))
            (Appends-kept ended ended end [] (Appends-nil ended) flushed_last) refl

      -- the lines have ended
      pub end-told : (given new end : Option (List ℕ)) → lines_of held ≡ [] → Appends flushed new (last_text mark) → Keeps new end
          → IfSome given (λ bytes. IsToldSoFar saves plant rules mark first now bytes left a b start out)
          → IfSome given (λ bytes. IsTranscript saves (transcript_from plant rules mark first (lines_of bytes)) a b start end)
      end-told None new end cuts printed flushed_last transcript = tt
      end-told (Some bytes) new end cuts printed flushed_last transcript =
          let none : lines_of transcript.rest ≡ [] = no-line-kept MAX_LINE transcript.rest (ap lines_of (sym (kept-of left transcript.rest held transcript.known keeps)) ∙ cuts) in
          all-told saves (transcript_from plant rules mark first (lines_of bytes)) (transcript_from plant rules mark now (lines_of transcript.rest)) a b start out end (prompt_text mark ++ last_text mark) transcript.so_far
          (Appends-kept out new end (prompt_text mark ++ last_text mark) (behind-prompt new (last_text mark) printed) flushed_last)
          (ap (λ ls. transcript_from plant rules mark now ls []) none)
