-- What is told of a session so far, and what is left to tell.
use Rattle.std.proofs.Common.{◌≡◌, ◌∙◌, ap, sym, refl, subst, ℕ, Bool, true, false, List, [], ◌∷◌, ◌++◌, map, append_assoc, append-nil}
use Rattle.std.specs.Prelude.{Option}
use Rattle.std.specs.Io.KnownBytes.{Appends}
use Rattle.std.proofs.KnownBytes.{Appends-nil, Appends-trans}
use Rattle.std.proofs.lemmas.Bool.{false≢true}
use Rattle.std.proofs.lemmas.List.{map-append}
use Rattle.plant_model.specs.Plant.{PlantDefinition}
use Rattle.step_session.specs.Answers.{answer_text, savings_of, session_after}
use Rattle.step_session.specs.Command.{CommandDefinition, shows, fires, fires_named, takes_back, fires_random, fires_until, tells, tells_of, saves_to, helps, quits, mistaken, ends}
use Rattle.step_session.specs.Saved.{AreSaved, Saving}
use Rattle.step_session.specs.Mark.{ended_text, prompt_text}
use Rattle.step_session.specs.Session.{SessionDefinition}
use Rattle.step_session.specs.Transcript.{IsTranscript, Transcript, nothing_more, after_text, transcript_by}
use Rattle.step_session.specs.declared.mark.Mark.{Mark}

-- what the saver said to savings
abbrev pub said_of : List Saving → List Bool
said_of savings = map (λ s. s.said) savings

-- what is told after two parts
behind-behind : (text more : List ℕ) (savings others : List Saving) (transcript : Transcript) → after_text text savings (after_text more others transcript) ≡ after_text (text ++ more) (savings ++ others) transcript
behind-behind text more savings others transcript =
    let made : List ℕ → List Saving → Transcript = λ t s. record { text = t; savings = s } in
    ap (λ t. made t (savings ++ (others ++ transcript.savings))) (sym (append_assoc text more transcript.text)) ∙
    ap (λ s. made ((text ++ more) ++ transcript.text) s) (sym (append_assoc savings others transcript.savings))

-- a command that does not end the session is told, by what the saver says of its savings, and then what is after it
pub told-on : (plant : PlantDefinition) (rules : List ℕ) (mark : Mark) (session : SessionDefinition) (command : CommandDefinition) (more : SessionDefinition → List Bool → Transcript) (said : Bool) (rest : List Bool)
    → ends command ≡ false
    → transcript_by plant rules mark session command more (said_of (savings_of plant session said command) ++ rest)
    ≡ after_text (prompt_text mark ++ ended_text mark (answer_text plant rules session said command)) (savings_of plant session said command) (more (session_after plant session command) rest)
told-on plant rules mark session shows more said rest on = refl
told-on plant rules mark session (fires number) more said rest on = refl
told-on plant rules mark session (fires_named name) more said rest on = refl
told-on plant rules mark session takes_back more said rest on = refl
told-on plant rules mark session (fires_random count) more said rest on = refl
told-on plant rules mark session (fires_until name most) more said rest on = refl
told-on plant rules mark session tells more said rest on = refl
told-on plant rules mark session (tells_of name) more said rest on = refl
told-on plant rules mark session (saves_to path) more said rest on = refl
told-on plant rules mark session helps more said rest on = refl
told-on plant rules mark session quits more said rest on = absurd (false≢true (sym on))
told-on plant rules mark session (mistaken mistake) more said rest on = refl

-- after one that ends it nothing is told
pub printed-last : (plant : PlantDefinition) (rules : List ℕ) (mark : Mark) (session : SessionDefinition) (command : CommandDefinition) (more : SessionDefinition → List Bool → Transcript) (said : Bool) (rest : List Bool)
    → ends command ≡ true
    → transcript_by plant rules mark session command more (said_of (savings_of plant session said command) ++ rest)
    ≡ after_text (prompt_text mark ++ ended_text mark (answer_text plant rules session said command)) (savings_of plant session said command) nothing_more
printed-last plant rules mark session shows more said rest over = absurd (false≢true over)
printed-last plant rules mark session (fires number) more said rest over = absurd (false≢true over)
printed-last plant rules mark session (fires_named name) more said rest over = absurd (false≢true over)
printed-last plant rules mark session takes_back more said rest over = absurd (false≢true over)
printed-last plant rules mark session (fires_random count) more said rest over = absurd (false≢true over)
printed-last plant rules mark session (fires_until name most) more said rest over = absurd (false≢true over)
printed-last plant rules mark session tells more said rest over = absurd (false≢true over)
printed-last plant rules mark session (tells_of name) more said rest over = absurd (false≢true over)
printed-last plant rules mark session (saves_to path) more said rest over = absurd (false≢true over)
printed-last plant rules mark session helps more said rest over = absurd (false≢true over)
printed-last plant rules mark session quits more said rest over = refl
printed-last plant rules mark session (mistaken mistake) more said rest over = absurd (false≢true over)

-- a text and savings were told, and after them, by the answers that are left, something is left to tell
pub record IsSoFar {S : Type 0} (saves : S → List ℕ → List ℕ → Bool → S → Type 0) (transcript left : List Bool → Transcript) (before now : S) (old new : Option (List ℕ)) : Type 0 where
  pub text : List ℕ
  pub savings : List Saving
  pub printed : Appends old new text
  pub saved : AreSaved saves before savings now
  pub leads : (rest : List Bool) → transcript (said_of savings ++ rest) ≡ after_text text savings (left rest)

module _ {S : Type 0} (saves : S → List ℕ → List ℕ → Bool → S → Type 0) where
  -- savings and then others
  saved-append : (xs ys : List Saving) (a b c : S) → AreSaved saves a xs b → AreSaved saves b ys c → AreSaved saves a (xs ++ ys) c
  saved-append [] ys a b c none more = subst (λ s. AreSaved saves s ys c) (sym none) more
  saved-append (x ∷ xs) ys a b c first more = (first.0, first.1, saved-append xs ys first.0 b c first.2 more)

  -- at first all is left
  pub all-left : (transcript : List Bool → Transcript) (s : S) (old : Option (List ℕ)) → IsSoFar saves transcript transcript s s old old
  all-left transcript s old = record { text = []; savings = []; printed = Appends-nil old; saved = refl; leads = λ rest. refl }

  -- a piece and its savings are told
  pub piece-told : (transcript left after : List Bool → Transcript) (a b c : S) (start old new : Option (List ℕ)) (piece : List ℕ) (own : List Saving)
      → IsSoFar saves transcript left a b start old → Appends old new piece → AreSaved saves b own c
      → ((rest : List Bool) → left (said_of own ++ rest) ≡ after_text piece own (after rest)) → IsSoFar saves transcript after a c start new
  piece-told transcript left after a b c start old new piece own s printed saved step = record {
    text = s.text ++ piece;
    savings = s.savings ++ own;
    printed = Appends-trans start old new s.text piece s.printed printed;
    saved = saved-append s.savings own a b c s.saved saved;
    leads = λ rest.
        ap (λ bs. transcript (bs ++ rest)) (map-append (λ x. x.said) s.savings own) ∙
        ap transcript (append_assoc (said_of s.savings) (said_of own) rest) ∙
        s.leads (said_of own ++ rest) ∙
        ap (after_text s.text s.savings) (step rest) ∙
        behind-behind s.text piece s.savings own (after rest);
  }

  -- the last piece is told
  pub all-told : (transcript left : List Bool → Transcript) (a b : S) (start old new : Option (List ℕ)) (piece : List ℕ)
      → IsSoFar saves transcript left a b start old → Appends old new piece → left [] ≡ record { text = piece; savings = [] } → IsTranscript saves transcript a b start new
  all-told transcript left a b start old new piece s printed last =
      let made : transcript (said_of s.savings ++ []) ≡ record { text = s.text ++ piece; savings = s.savings ++ [] } = s.leads [] ∙ ap (after_text s.text s.savings) last in
      record {
        answers = said_of s.savings ++ [];
        printed = subst (Appends start new) (sym (ap (λ t. t.text) made)) (Appends-trans start old new s.text piece s.printed printed);
        saved = subst (λ savings. AreSaved saves a savings b) (sym (ap (λ t. t.savings) made ∙ append-nil s.savings)) s.saved;
      }

  -- a text is told before all of it
  pub told-behind : (transcript : List Bool → Transcript) (a b : S) (start old new : Option (List ℕ)) (text : List ℕ)
      → Appends start old text → IsTranscript saves transcript a b old new → IsTranscript saves (λ answers. after_text text [] (transcript answers)) a b start new
  told-behind transcript a b start old new text begun t = record {
    answers = t.answers;
    printed = Appends-trans start old new text (transcript t.answers).text begun t.printed;
    saved = t.saved;
  }
