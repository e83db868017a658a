-- The offered transitions of one atom, and their numbers, put in the place of others.
use Rattle.std.proofs.Common.{◌≡◌, ◌≢◌, ℕ, ◌<◌, ◌≤◌, sym, ◌∙◌, ap, subst, List, [], length, get_or, set, replicate, arith, ⊎_elim}
use Rattle.std.specs.Prelude.{Some, slice_get}
use Rattle.std.proofs.lemmas.Bool.{cases_eq, cases_lt}
use Rattle.std.proofs.lemmas.List.{get_or-set_same, get_or-set_other, get_or-replicate, get_or_past, length-replicate, length-set}
use Rattle.std.proofs.lemmas.Option.{same_Some, slice_get_within}
use Rattle.petri_atom.specs.Local.{Local}
use Rattle.petri_atom.specs.Definition.{AtomDefinition, enabled, offered_set}
use Rattle.petri_atom.specs.declared.parts.TheConstants.{MAX_TRANSITIONS}
use Rattle.step_core.specs.EnabledTransitions.{count_at, AreCounted}

zeros : {X : Type 0} (k n : ℕ) (x z : X) → n < k → get_or (replicate k x) n z ≡ x
zeros k n x z within = get_or-replicate k n x z within

-- rows of zeros hold 0 for each port
pub no-counts : (atoms ports n port z : ℕ) → z ≡ 0 → count_at (replicate atoms (replicate ports z)) n port ≡ 0
no-counts atoms ports n port z none = ⊎_elim
    (λ within. ap (λ row. get_or row port 0) (zeros atoms n (replicate ports z) [] within) ∙ inner)
    (λ past. ap (λ row. get_or row port 0) (get_or_past (replicate atoms (replicate ports z)) n [] (omega (arith, past, length-replicate atoms (replicate ports z)))))
    (cases_lt n atoms)
  where
    inner : get_or (replicate ports z) port 0 ≡ 0
    inner = ⊎_elim
        (λ within. zeros ports port z 0 within ∙ none)
        (λ past. get_or_past (replicate ports z) port 0 (omega (arith, past, length-replicate ports z)))
        (cases_lt port ports)

module _ (sets : List ℕ) (counts : List (List ℕ)) (i new : ℕ) (row : List ℕ) (in-sets : i < length sets) (in-counts : i < length counts) where
  pub set-here : (n : ℕ) → n ≡ i → get_or (set sets i new) n 0 ≡ new
  set-here n same = ap (λ k. get_or (set sets i new) k 0) same ∙ get_or-set_same sets i new 0 in-sets

  pub set-there : (n : ℕ) → n ≢ i → get_or (set sets i new) n 0 ≡ get_or sets n 0
  set-there n other = get_or-set_other sets i n new 0 other

  pub count-here : (n port : ℕ) → n ≡ i → count_at (set counts i row) n port ≡ get_or row port 0
  count-here n port same = ap (λ k. count_at (set counts i row) k port) same ∙ ap (λ r. get_or r port 0) (get_or-set_same counts i row [] in-counts)

  pub count-there : (n port : ℕ) → n ≢ i → count_at (set counts i row) n port ≡ count_at counts n port
  count-there n port other = ap (λ r. get_or r port 0) (get_or-set_other counts i n row [] other)

  -- the row is that of an atom
  module _ (atom : AtomDefinition)
      (told : (s : Local) (port : ℕ) → new ≡ offered_set atom s → get_or row port 0 ≡ length (enabled atom s port))
      (past : (port : ℕ) → length atom.ports ≤ port → get_or row port 0 ≡ 0)
      (few : (port : ℕ) → get_or row port 0 ≤ MAX_TRANSITIONS) where
    pub its-ports : (n : ℕ) (a : AtomDefinition) (s : Local) (port : ℕ) → n ≡ i → atom ≡ a → get_or (set sets i new) n 0 ≡ offered_set a s → count_at (set counts i row) n port ≡ length (enabled a s port)
    its-ports n a s port same its set_told =
        count-here n port same ∙ told s port (sym (set-here n same) ∙ set_told ∙ ap (λ b. offered_set b s) (sym its)) ∙ ap (λ b. length (enabled b s port)) its

    pub its-past : (n : ℕ) (a : AtomDefinition) (port : ℕ) → n ≡ i → atom ≡ a → length a.ports ≤ port → count_at (set counts i row) n port ≡ 0
    its-past n a port same its beyond =
        count-here n port same ∙ past port (subst (λ b. length b.ports ≤ port) (sym its) beyond)

    pub all-few : ((n port : ℕ) → count_at counts n port ≤ MAX_TRANSITIONS) → (n port : ℕ) → count_at (set counts i row) n port ≤ MAX_TRANSITIONS
    all-few before n port = ⊎_elim
        (λ same. subst (λ k. k ≤ MAX_TRANSITIONS) (sym (count-here n port same)) (few port))
        (λ other. subst (λ k. k ≤ MAX_TRANSITIONS) (sym (count-there n port other)) (before n port))
        (cases_eq n i)

    pub recounted : (atoms : List AtomDefinition) → slice_get atoms i ≡ Some atom → AreCounted atoms sets counts → AreCounted atoms (set sets i new) (set counts i row)
    recounted atoms there before = record {
      at_ports = λ n a s port known set_told. ⊎_elim
          (λ same. its-ports n a s port same (same_Some atom a (sym there ∙ ap (slice_get atoms) (sym same) ∙ known)) set_told)
          (λ other. count-there n port other ∙ before.at_ports n a s port known (sym (set-there n other) ∙ set_told))
          (cases_eq n i);
      past_ports = λ n a port known beyond. ⊎_elim
          (λ same. its-past n a port same (same_Some atom a (sym there ∙ ap (slice_get atoms) (sym same) ∙ known)) beyond)
          (λ other. count-there n port other ∙ before.past_ports n a port known beyond)
          (cases_eq n i);
      past_atoms = λ n port beyond. count-there n port (λ same. absurd (omega (arith, slice_get_within atoms i atom there, same, beyond))) ∙ before.past_atoms n port beyond;
      few = all-few before.few;
    }

-- what is counted is right for all sets that are the same number by number
pub counted-alike : (atoms : List AtomDefinition) (sets others : List ℕ) (counts : List (List ℕ)) → ((n : ℕ) → get_or sets n 0 ≡ get_or others n 0) → AreCounted atoms sets counts → AreCounted atoms others counts
counted-alike atoms sets others counts same right = record {
  at_ports = λ n a s port known told. right.at_ports n a s port known (same n ∙ told);
  past_ports = right.past_ports;
  past_atoms = right.past_atoms;
  few = right.few;
}

-- so it is where one is put back that another one took the place of
pub put-back : (sets : List ℕ) (i other here : ℕ) → i < length sets → here ≡ get_or sets i 0 → (n : ℕ) → get_or (set (set sets i other) i here) n 0 ≡ get_or sets n 0
put-back sets i other here within is n = ⊎_elim
    (λ same. ap (λ k. get_or (set (set sets i other) i here) k 0) same ∙ get_or-set_same (set sets i other) i here 0 (omega (arith, within, length-set sets i other)) ∙ is ∙ ap (λ k. get_or sets k 0) (sym same))
    (λ differs. get_or-set_other (set sets i other) i n here 0 differs ∙ get_or-set_other sets i n other 0 differs)
    (cases_eq n i)

-- and where one is put that was there
pub put-same : (sets : List ℕ) (i k here : ℕ) → i ≡ k → i < length sets → here ≡ get_or sets i 0 → (n : ℕ) → get_or (set sets k here) n 0 ≡ get_or sets n 0
put-same sets i k here alike within is n = ⊎_elim
    (λ same. ap (λ j. get_or (set sets k here) j 0) same ∙ get_or-set_same sets k here 0 (omega (arith, within, alike)) ∙ is ∙ ap (λ j. get_or sets j 0) (omega (arith, alike, same)))
    (λ differs. get_or-set_other sets k n here 0 differs)
    (cases_eq n k)

-- an entry that is written by its number
pub written-at : (xs : List ℕ) (i k x : ℕ) → i ≡ k → i < length xs → get_or (set xs i x) k 0 ≡ x
written-at xs i k x same within = ap (λ j. get_or (set xs i x) j 0) (sym same) ∙ get_or-set_same xs i x 0 within
