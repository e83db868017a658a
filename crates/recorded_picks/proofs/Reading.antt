-- The moves of a line, read word by word, and the interaction whose ports they fire.
use Rattle.std.proofs.Common.{◌≡◌, ℕ, ◌<◌, ◌≤◌, ◌==◌, refl, sym, ◌∙◌, ap, subst, List, [], ◌∷◌, ◌++◌, length, append_assoc, Bool, true, false, cond, Contains, arith}
use Rattle.std.specs.Prelude.{Option, Some, None, Result, Ok, Err, IfErr, IsErrAnd, find, nat_le, option_map}
use Rattle.std.specs.Cmp.Lexicographic.{as_long, pointwise}
use Rattle.std.specs.Option.{ok_or, option_and_then}
use Rattle.std.proofs.lemmas.Bool.{and_parts, le-leb, leb-false, lt-leb}
use Rattle.std.proofs.lemmas.List.{length_push}
use Rattle.std.proofs.lemmas.Option.{none-some, same_Some}
use Rattle.connector_tree.specs.declared.tree.TheConstants.{MAX_LEAVES}
use Rattle.run_text.specs.declared.pick.Misread.{Misread}
use Rattle.run_text.specs.declared.pick.Misread.TheVariants.{NoInteraction}
use Rattle.plant_words.specs.Reading.{◌>>=◌}
use Rattle.plant_model.specs.Choice.{ChoiceDefinition, Interaction, plant_interactions}
use Rattle.plant_model.specs.Plant.{PlantDefinition}
use Rattle.plant_model.specs.Rules.{fault_of}
use Rattle.plant_model.specs.declared.choice.Move.{Move}
use Rattle.plant_model.proofs.Membership.{here, later}
use Rattle.plant_model.proofs.OfInteractions.{interaction-of}
use Rattle.recorded_picks.specs.Choices.{choice_by, choice_in, connector_read, few_moves, fires, is_fired_by, mask_of, moves_read}
use Rattle.recorded_picks.specs.Moves.{move_read, moves_in}

-- ---- moves

-- few moves are as many as they are, and more are none
pub few : (moves : List Move) → length moves ≤ MAX_LEAVES → few_moves moves ≡ Some moves
few moves within = ap (λ b. cond b (Some moves) None) (le-leb (length moves) MAX_LEAVES within)

pub many : (moves : List Move) → MAX_LEAVES < length moves → few_moves moves ≡ None
many moves past = ap (λ b. cond b (Some moves) None) (lt-leb (length moves) MAX_LEAVES past)

-- one more after those that were read
pub one-more : (moves : List Move) (m : Move) → option_and_then (λ ms. few_moves (ms ++ m ∷ [])) (few_moves moves) ≡ few_moves (moves ++ m ∷ [])
one-more moves m = each (nat_le (length moves) MAX_LEAVES) refl
  where
    each : (b : Bool) → nat_le (length moves) MAX_LEAVES ≡ b → option_and_then (λ ms. few_moves (ms ++ m ∷ [])) (cond b (Some moves) None) ≡ few_moves (moves ++ m ∷ [])
    each true within = refl
    each false past = sym (many (moves ++ m ∷ []) (omega (arith, length_push moves m, leb-false (length moves) MAX_LEAVES past)))

-- moves behind others
abbrev behind : List Move → List Move → Result (List Move) Misread
behind passed more = Ok (passed ++ more)

-- some words are read, as moves that are held if they are few, and the others are left
pub record AreRead (plant : PlantDefinition) (all left : List (List ℕ)) (moves : Option (List Move)) : Type 0 where
  pub passed : List Move
  pub means : moves_in plant all ≡ moves_in plant left >>= behind passed
  pub held : moves ≡ few_moves passed

one-before : (passed : List Move) (m : Move) (moves : Result (List Move) Misread) → ((moves >>= behind (m ∷ [])) >>= behind passed) ≡ moves >>= behind (passed ++ m ∷ [])
one-before passed m (Err told) = refl
one-before passed m (Ok ms) = ap Ok (sym (append_assoc passed (m ∷ []) ms))

module _ (plant : PlantDefinition) (all : List (List ℕ)) where
  module _ (left rest : List (List ℕ)) (word : List ℕ) (moves : Option (List Move)) (taken : left ≡ word ∷ rest) (read : AreRead plant all left moves) where
    -- what the word is read as, before the moves of the rest
    abbrev before : Result Move Misread → Result (List Move) Misread
    before step = step >>= λ m. moves_in plant rest >>= behind (m ∷ [])

    begun : moves_in plant left ≡ before (move_read plant word)
    begun = ap (moves_in plant) taken

    -- a word that names a move
    pub read-more : (m : Move) (more : Option (List Move)) → move_read plant word ≡ Ok m → more ≡ option_and_then (λ ms. few_moves (ms ++ m ∷ [])) moves → AreRead plant all rest more
    read-more m more names added = record {
      passed = read.passed ++ m ∷ [];
      means = read.means ∙ ap (λ r. r >>= behind read.passed) (begun ∙ ap before names) ∙ one-before read.passed m (moves_in plant rest);
      held = added ∙ ap (option_and_then (λ ms. few_moves (ms ++ m ∷ []))) read.held ∙ one-more read.passed m;
    }

-- ---- the interaction

-- what is found passes the test, and is in the list
pub found : {X : Type 0} (test : X → Bool) (xs : List X) (x : X) → find test xs ≡ Some x → (test x ≡ true) × Contains xs x
found test [] x is = absurd (none-some x is)
found {X} test (y ∷ ys) x is = each (found test ys x) (test y) refl is
  where
    each : (find test ys ≡ Some x → (test x ≡ true) × Contains ys x) → (b : Bool) → test y ≡ b → cond b (Some y) (find test ys) ≡ Some x → (test x ≡ true) × Contains (y ∷ ys) x
    each behind true passes told = let e : y ≡ x = same_Some y x told in (ap test (sym e) ∙ passes, subst (Contains (y ∷ ys)) e (here y ys))
    each behind false fails told = let rest = behind told in (rest.0, later y ys x rest.1)

module _ (plant : PlantDefinition) (valid : fault_of plant ≡ None) (connector : ℕ) (moves : List Move) where
  -- more moves than an interaction has ports fire none
  pub too-many : MAX_LEAVES < length moves → mask_of plant connector moves ≡ None
  too-many past = each (find (is_fired_by plant.atoms connector moves) (plant_interactions plant)) refl
    where
      each : (o : Option Interaction) → find (is_fired_by plant.atoms connector moves) (plant_interactions plant) ≡ o → option_map (λ i. i.mask) o ≡ None
      each None none = refl
      each (Some i) is =
          let at = found (is_fired_by plant.atoms connector moves) (plant_interactions plant) i is in
          let fired = (and_parts (i.connector == connector) (pointwise (fires plant.atoms) i.ports moves) at.0).1 in
          absurd (omega (arith, past, as_long (fires plant.atoms) i.ports moves fired, (interaction-of plant valid i at.1).few))

-- ---- the choice

-- a misread stays what it is, whatever would have been read
misread-still : {X Y : Type 0} (a b : Misread) → ◌≡◌ {A = Result X Misread} (Err a) (Err b) → ◌≡◌ {A = Result Y Misread} (Err a) (Err b)
misread-still a b same = cc

-- the misread that leaves a function is the one that was told
pub misread-left : {A : Type 0} (P : Misread → Type 0) (result : Result A Misread) (m : Misread) → IsErrAnd result (λ told. told ≡ m) → P m → IfErr result P
misread-left P (Ok x) m left holds = tt
misread-left P (Err told) m left holds = subst P (sym left) holds

module _ (plant : PlantDefinition) (name : List ℕ) (words : List (List ℕ)) where
  -- the choice of a connector and of moves, and that of a connector and of what words name
  abbrev of_moves : ℕ → List Move → Result ChoiceDefinition Misread
  of_moves k ms = ok_or (choice_by plant k ms) NoInteraction

  abbrev of_words : ℕ → Result (List Move) Misread → Result ChoiceDefinition Misread
  of_words k moves = moves >>= of_moves k

  module _ (k : ℕ) (named : connector_read plant name ≡ Ok k) where
    known : choice_in plant name words ≡ of_words k (moves_in plant words)
    known = ap (λ r. r >>= λ n. of_words n (moves_in plant words)) named

    -- a word names no move, or there are too many
    pub no-moves : fault_of plant ≡ None → (m : Misread) → moves_read (moves_in plant words) ≡ Err m → choice_in plant name words ≡ Err m
    no-moves valid m told = known ∙ each (moves_in plant words) told
      where
        by-count : (ms : List Move) (b : Bool) → nat_le (length ms) MAX_LEAVES ≡ b → ok_or (cond b (Some ms) None) NoInteraction ≡ Err m → of_moves k ms ≡ Err m
        by-count ms true within told = absurd (cc)
        by-count ms false past told =
            ap (λ o. ok_or (option_map (λ mask. record { connector = k; mask = mask; moves = ms }) o) NoInteraction) (too-many plant valid k ms (leb-false (length ms) MAX_LEAVES past)) ∙ misread-still NoInteraction m told

        each : (moves : Result (List Move) Misread) → moves_read moves ≡ Err m → of_words k moves ≡ Err m
        each (Err other) told = misread-still other m told
        each (Ok ms) told = by-count ms (nat_le (length ms) MAX_LEAVES) refl told

    -- each word names a move, and there are few
    pub with-moves : (ms : List Move) → moves_read (moves_in plant words) ≡ Ok ms → choice_in plant name words ≡ of_moves k ms
    with-moves ms told = known ∙ ap (of_words k) (all (moves_in plant words) told)
      where
        by-count : (ks : List Move) (b : Bool) → ok_or (cond b (Some ks) None) NoInteraction ≡ Ok ms → ◌≡◌ {A = Result (List Move) Misread} (Ok ks) (Ok ms)
        by-count ks true told = cc
        by-count ks false told = absurd (cc)

        all : (moves : Result (List Move) Misread) → moves_read moves ≡ Ok ms → moves ≡ Ok ms
        all (Err other) told = absurd (cc)
        all (Ok ks) told = by-count ks (nat_le (length ks) MAX_LEAVES) told
