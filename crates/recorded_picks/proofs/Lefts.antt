-- What is left of the picks of a text when a line of it is read.
use Rattle.std.proofs.Common.{◌≡◌, ℕ, ◌+◌, refl, sym, ◌∙◌, ap, subst, List, [], ◌∷◌, ◌++◌, take, IfSome}
use Rattle.std.specs.Prelude.{Option, Some, None, option_map}
use Rattle.std.specs.Io.BufRead.{drop_through, take_through, DropsThrough}
use Rattle.std.specs.Option.{option_to_list}
use Rattle.plant_words.specs.Lines.{lines_of}
use Rattle.plant_model.specs.Plant.{PlantDefinition}
use Rattle.text_io.specs.Numbered.{numbered}
use Rattle.run_text.specs.Picks.{Gives, PickDefinition, TakeDefinition, pick_of, take_of}
use Rattle.run_text.specs.declared.pick.Numbers.{Numbers}
use Rattle.run_text.specs.declared.pick.Pick.{Pick}
use Rattle.recorded_picks.specs.Files.{picks_from, picks_of_line}
use Rattle.recorded_picks.specs.Lines.{said_in}
use Rattle.recorded_picks.specs.declared.kept_line.TheConstants.{KEPT}
use Rattle.recorded_picks.proofs.FirstLines.{begins-like, no-line-kept}

-- known picks are the same as before
pub record AreKept (old new : Option (List PickDefinition)) : Type 0 where
  pub same : (picks : List PickDefinition) → old ≡ Some picks → new ≡ Some picks

pub kept-on : (old now new : Option (List PickDefinition)) → AreKept old now → AreKept now new → AreKept old new
kept-on old now new first second = record { same = λ picks is. second.same picks (first.same picks is) }

-- what is given of picks that were kept is given of those before
pub given-before : (old now new : Option (List PickDefinition)) (next : Option Pick) → AreKept old now → Gives now new next → Gives old new next
given-before None now new next kept gives = tt
given-before (Some picks) now new next kept gives = subst (λ o. Gives o new next) (kept.same picks refl) gives

module _ (numbers : Numbers) (plant : PlantDefinition) where
  -- the picks of the lines after so many
  abbrev pub picks_behind : ℕ → Option (List ℕ) → Option (List PickDefinition)
  picks_behind lines bytes = option_map (picks_from numbers plant (lines + 1)) bytes

  abbrev one_taken : ℕ → TakeDefinition → PickDefinition
  one_taken place take = record { place = place; take = take }

  -- the picks of a text whose first line is read
  split : (lines : ℕ) (text line : List ℕ) (more : List (List ℕ)) → lines_of (take KEPT (take_through 10 text)) ≡ line ∷ more
      → picks_from numbers plant (lines + 1) text ≡ picks_of_line numbers plant (lines + 1) line ++ picks_from numbers plant (lines + 1 + 1) (drop_through 10 text)
  split lines text line more kept =
      let first = begins-like numbers plant text line more kept in
      ap (numbered (picks_of_line numbers plant) (lines + 1)) first.begins
      ∙ ap (λ said. option_to_list (option_map (one_taken (lines + 1)) said) ++ picks_from numbers plant (lines + 1 + 1) (drop_through 10 text)) first.said

  module _ (lines : ℕ) (old new : Option (List ℕ)) (kept : List ℕ) (read : IfSome old (λ text. kept ≡ take KEPT (take_through 10 text))) (rest : DropsThrough old new 10) where
    -- the text has ended
    pub ended : lines_of kept ≡ [] → Gives (picks_behind lines old) (picks_behind lines new) None
    ended none = each old read rest
      where
        each : (o : Option (List ℕ)) → IfSome o (λ text. kept ≡ take KEPT (take_through 10 text)) → DropsThrough o new 10 → Gives (picks_behind lines o) (picks_behind lines new) None
        each None read rest = tt
        each (Some text) read rest =
            let empty : text ≡ [] = no-line-kept text (sym (ap lines_of read) ∙ none) in
            let left : new ≡ Some [] = rest ∙ ap (λ t. Some (drop_through 10 t)) empty in
            subst (λ o. Gives (Some (picks_from numbers plant (lines + 1) text)) (picks_behind lines o) None) (sym left) (ap (picks_from numbers plant (lines + 1)) empty, refl)

    module _ (line : List ℕ) (more : List (List ℕ)) (first : lines_of kept ≡ line ∷ more) where
      -- a line is passed over
      pub passed : None ≡ said_in numbers plant line → AreKept (picks_behind lines old) (picks_behind (lines + 1) new)
      passed said = record { same = λ picks is. each old read rest picks is }
        where
          each : (o : Option (List ℕ)) → IfSome o (λ text. kept ≡ take KEPT (take_through 10 text)) → DropsThrough o new 10 → (picks : List PickDefinition) → picks_behind lines o ≡ Some picks → picks_behind (lines + 1) new ≡ Some picks
          each None read rest picks is = absurd (cc)
          each (Some text) read rest picks is =
              ap (picks_behind (lines + 1)) rest
              ∙ ap Some (sym (split lines text line more (sym (ap lines_of read) ∙ first) ∙ ap (λ o. option_to_list (option_map (one_taken (lines + 1)) o) ++ picks_from numbers plant (lines + 1 + 1) (drop_through 10 text)) (sym said)))
              ∙ is

      -- a line is a pick
      pub given : (pick : Pick) → pick.place ≡ lines + 1 → Some (take_of pick.take) ≡ said_in numbers plant line → Gives (picks_behind lines old) (picks_behind (lines + 1) new) (Some pick)
      given pick place said = each old read rest
        where
          each : (o : Option (List ℕ)) → IfSome o (λ text. kept ≡ take KEPT (take_through 10 text)) → DropsThrough o new 10 → Gives (picks_behind lines o) (picks_behind (lines + 1) new) (Some pick)
          each None read rest = tt
          each (Some text) read rest =
              let all : picks_from numbers plant (lines + 1) text ≡ pick_of pick ∷ picks_from numbers plant (lines + 1 + 1) (drop_through 10 text) =
              split lines text line more (sym (ap lines_of read) ∙ first)
              ∙ ap (λ o. option_to_list (option_map (one_taken (lines + 1)) o) ++ picks_from numbers plant (lines + 1 + 1) (drop_through 10 text)) (sym said)
              ∙ ap (λ n. one_taken n (take_of pick.take) ∷ picks_from numbers plant (lines + 1 + 1) (drop_through 10 text)) (sym place) in
              subst (λ o. Gives (Some (picks_from numbers plant (lines + 1) text)) (picks_behind (lines + 1) o) (Some pick)) (sym rest) all
