-- What a line says, by the words of its front.
use Rattle.std.proofs.Common.{◌≡◌, ℕ, ◌<◌, ◌≤◌, Bool, true, false, cond, sym, ◌∙◌, ap, List, length, take}
use Rattle.std.specs.Prelude.{None, Some, nat_lt}
use Rattle.std.proofs.lemmas.Bool.{le-ltb, lt-ltb}
use Rattle.std.proofs.lemmas.List.{take_all}
use Rattle.plant_words.specs.Words.{words_of}
use Rattle.plant_model.specs.Plant.{PlantDefinition}
use Rattle.run_text.specs.Picks.{misread}
use Rattle.run_text.specs.declared.pick.Misread.TheVariants.{TooLong}
use Rattle.run_text.specs.declared.pick.Numbers.{Numbers}
use Rattle.recorded_picks.specs.Lines.{is_remark, said_in, take_in}
use Rattle.recorded_picks.specs.declared.kept_line.TheConstants.{MAX_PICK_LINE}

module _ (numbers : Numbers) (plant : PlantDefinition) (line : List ℕ) (words : List (List ℕ)) (front : words ≡ words_of (take MAX_PICK_LINE line)) where
  known : (b : Bool) → is_remark words ≡ b → said_in numbers plant line ≡ cond b None (cond (nat_lt MAX_PICK_LINE (length line)) (Some (misread TooLong)) (take_in numbers plant (words_of line)))
  known b is =
      ap (λ test. cond test None (cond (nat_lt MAX_PICK_LINE (length line)) (Some (misread TooLong)) (take_in numbers plant (words_of line))))
      (ap is_remark (sym front) ∙ is)

  -- a comment
  pub said-nothing : is_remark words ≡ true → said_in numbers plant line ≡ None
  said-nothing is = known true is

  module _ (none : is_remark words ≡ false) where
    -- a long line
    pub said-long : MAX_PICK_LINE < length line → said_in numbers plant line ≡ Some (misread TooLong)
    said-long long = known false none ∙ ap (λ b. cond b (Some (misread TooLong)) (take_in numbers plant (words_of line))) (lt-ltb MAX_PICK_LINE (length line) long)

    -- any other
    pub said-words : length line ≤ MAX_PICK_LINE → said_in numbers plant line ≡ take_in numbers plant words
    said-words short =
        known false none ∙ ap (λ b. cond b (Some (misread TooLong)) (take_in numbers plant (words_of line))) (le-ltb MAX_PICK_LINE (length line) short)
        ∙ ap (λ bytes. take_in numbers plant (words_of bytes)) (sym (take_all MAX_PICK_LINE line short)) ∙ ap (take_in numbers plant) (sym front)
