-- One change more in a record, and what it makes of the present moment.
use Rattle.std.proofs.Common.{◌≡◌, ℕ, suc, ◌+◌, Bool, List, [], ◌∷◌, ◌++◌, length, take, drop, refl, ◌∙◌, ap, subst}
use Rattle.std.proofs.lemmas.List.{take_at}
use Rattle.disk_model.specs.declared.change.Change.{Change}
use Rattle.disk_model.specs.DiskState.{Moment, overwritten}
use Rattle.disk_model.specs.declared.recorded.Recorded.TheInside.{Inside}
use Rattle.disk_model.specs.Recorded.{recording_of, IsSound}
use Rattle.disk_model.specs.Recording.{Recording, at_rest, moment_after, last_moment, moments_before}

last_push : (m : Moment) (changes : List Change) (change : Change) → last_moment m (changes ++ change ∷ []) ≡ moment_after (last_moment m changes) change
last_push m [] change = refl
last_push m (c ∷ changes) change = last_push (moment_after m c) changes change

before_push : (m : Moment) (changes : List Change) (change : Change) → moments_before m (changes ++ change ∷ []) ≡ moments_before m changes ++ last_moment m changes ∷ []
before_push m [] change = refl
before_push m (c ∷ changes) change = ap (λ (l : List Moment). m ∷ l) (before_push (moment_after m c) changes change)

-- the replay leads to what stands there, also after one change more
pub replayed_more : (first present next : Moment) (changes later : List Change) (change : Change) → last_moment first changes ≡ present → later ≡ changes ++ change ∷ [] → moment_after present change ≡ next → last_moment first later ≡ next
replayed_more first present next changes later change was is goes =
    ap (λ (l : List Change). last_moment first l) is ∙ last_push first changes change ∙ ap (λ (m : Moment). moment_after m change) was ∙ goes

-- and the moment that was present is the last of those before
pub before_more : (first present : Moment) (changes later : List Change) (change : Change) → last_moment first changes ≡ present → later ≡ changes ++ change ∷ [] → moments_before first later ≡ moments_before first changes ++ present ∷ []
before_more first present changes later change was is =
    ap (λ (l : List Change). moments_before first l) is ∙ before_push first changes change ∙ ap (λ (m : Moment). moments_before first changes ++ m ∷ []) was

-- a change that is recorded has the moment that was present among those before
pub past_more : (r : Inside) (recording : Recording) (later : List Change) (change : Change) → IsSound r → recording_of r ≡ recording → later ≡ r.changes.items ++ change ∷ [] → moments_before (at_rest r.first.items) later ≡ recording.past ++ recording.present ∷ []
past_more r recording later change sound is more =
    subst (λ (s : Recording). moments_before (at_rest r.first.items) later ≡ s.past ++ s.present ∷ []) is (before_more (at_rest r.first.items) (record { seen = r.bytes.items; pending = r.marks.items }) r.changes.items later change sound.replayed more)

-- what the record keeps of a write is what was written
pub kept_part : (part rest : List ℕ) (n : ℕ) → length part ≡ n → take n (overwritten 0 part rest) ≡ part
kept_part part rest n is = take_at part (drop (0 + length part) rest) n is

-- a vector that was lent as a slice is what the slice came to hold
pub lent_back : {X : Type 0} (n : ℕ) (new old : List X) → length new ≡ n → length old ≡ n → take n (new ++ drop (length new) old) ≡ new
lent_back n new old same whole = take_at new (drop (length new) old) n same

pub moment_of_marks : (seen : List ℕ) (a b : List Bool) → a ≡ b → (let m : Moment = record { seen = seen; pending = a } in m) ≡ record { seen = seen; pending = b }
moment_of_marks seen a b same = let of : List Bool → Moment = λ l. record { seen = seen; pending = l } in ap of same

pub moment_same : (seen seen' : List ℕ) (pending pending' : List Bool) → seen ≡ seen' → pending ≡ pending' → (let m : Moment = record { seen = seen; pending = pending } in m) ≡ record { seen = seen'; pending = pending' }
moment_same seen seen' pending pending' s p =
    let left : List ℕ → Moment = λ l. record { seen = l; pending = pending } in
    ap left s ∙ moment_of_marks seen' pending pending' p

pub length-moments_before : (m : Moment) (changes : List Change) → length (moments_before m changes) ≡ length changes
length-moments_before m [] = refl
length-moments_before m (c ∷ changes) = ap (λ (n : ℕ). suc n) (length-moments_before (moment_after m c) changes)
