-- What the word and all passes know together, and what each step tells.
use Rattle.std.specs.Prelude.{◌≡◌, ℕ, Bool, true, false, if◌then◌else◌, nat_le, List, [], ◌∷◌, ◌++◌, All, map, length}
use mathlib.Core.Option.{some}
use mathlib.Core.List.{IsPrefix}
use lib.ListN.{get_elem?}
use Rattle.atomic_table.specs.Table.{State, Me, Step}
use Rattle.plant_core.specs.declared.front.Front.{Front}
use Rattle.front_word.specs.declared.knowing.Known.{Known}
use Rattle.front_word.specs.Fronts.{IsRising, IsWithin, last_of, no_front, packed}

module _ {E : Type 0} where
  abbrev pub knows : Front → List E → List (List E) → Bool → Known E
  knows opening seen old publishes = record { opening = opening; seen = seen; old = old; publishes = publishes; spent = false }

  -- the pass that publishes, at first
  abbrev pub first_pass : Front → Known E
  first_pass opening = knows opening [] [] true

  -- what is left of a pass that was joined to another
  abbrev pub spent_pass : Known E
  spent_pass = record { opening = no_front; seen = []; old = []; publishes = false; spent = true }

  -- a pass that watches with what this one has seen
  abbrev pub watching : Known E → Known E
  watching v = record v { publishes = false }

  abbrev pub longer : List E → List E → List E
  longer xs ys = if nat_le (length xs) (length ys) then ys else xs

  -- a pass and another that is joined to it: a watch has seen the longer, and the one that publishes what it had; both are among the old ones
  abbrev pub joined : Known E → Known E → Known E
  joined v w = record v { seen = (if v.publishes then v.seen else longer v.seen w.seen); old = v.seen ∷ w.seen ∷ (v.old ++ w.old) }

  -- what a pass knows of the history: that what it has seen begins it; the one that publishes has seen it all
  pub record KnowsOf (history : List E) (opening : Front) (publisher seat : ℕ) (v : Known E) : Type 0 where
    pub opening_is : v.opening ≡ opening
    pub seen : IsPrefix v.seen history
    pub old : All (λ xs. IsPrefix xs history) v.old
    pub whole : v.publishes ≡ true → (seat ≡ publisher) × (v.seen ≡ history)

  module _ (front : E → Front) where
    -- There is one history, whose fronts rise, the word holds the last of them, and each pass that is not spent knows of it.
    pub record IsPublished (opening : Front) (s : State E (Known E)) : Type 0 where
      pub history : List E
      pub publisher : ℕ
      pub opens : IsWithin opening opening
      pub rises : IsRising opening opening (map front history)
      pub word : s.words ≡ packed opening (last_of opening (map front history)) ∷ []
      pub known : (seat : ℕ) (v : Known E) → get_elem? s.views seat ≡ some v → v.spent ≡ false → KnowsOf history opening publisher seat v

    -- A read finds the last front of the history, which begins with all that the pass had seen, and which it has then seen.
    pub record IsRead (v : Known E) (found : ℕ) (w : Known E) : Type 0 where
      pub same : w ≡ record v { seen = w.seen; old = [] }
      pub grows : IsPrefix v.seen w.seen
      pub follows : All (λ xs. IsPrefix xs w.seen) v.old
      pub keeps : v.publishes ≡ true → w.seen ≡ v.seen
      pub rises : IsRising v.opening v.opening (map front w.seen)
      pub word : found ≡ packed v.opening (last_of v.opening (map front w.seen))

    abbrev pub Reads : Step E → Me E (Known E) → ℕ → Me E (Known E) → Type 0
    Reads s m found n = IsRead m.0 found n.0 × (n.1 ≡ m.1)

  -- the entry that is said is added to what was seen
  abbrev pub Publishes : Step E → Me E (Known E) → ℕ → Me E (Known E) → Type 0
  Publishes s m found n = (e : E) → s.said ≡ some e → (n.0 ≡ record m.0 { seen = m.0.seen ++ e ∷ [] }) × (n.1 ≡ m.1)
