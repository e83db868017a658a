-- What the watches of all workers hold.
use Rattle.std.proofs.Common.{◌≡◌, ◌∙◌, sym, subst, ℕ, ◌<◌, List, [], ◌∷◌, Result, Ok, Err, IfOk, map, get_or, length, arith}
use Rattle.std.specs.Prelude.{All}
use Rattle.std.proofs.lemmas.List.{get_or-map, length-map}
use Rattle.std.proofs.lemmas.List.Elements.{All-get_or}
use mathlib.Core.List.{IsPrefix}
use Rattle.plant_model.specs.Plant.{PlantDefinition}
use Rattle.plant_core.specs.View.{View}
use Rattle.plant_core.specs.declared.events.Event.{Event}
use Rattle.engine_host.specs.declared.entry.Entry.{Entry}
use Rattle.worker_runs.specs.Asked.{AreAsked}
use Rattle.worker_runs.specs.Shares.{HasAsked, IsShare}
use Rattle.worker_runs.specs.declared.crew.Share.{Share}

module _ (plant : PlantDefinition) (opening : View) (events : List Event) where
  -- a share by the number of its worker
  by-number : (workers worker : ℕ) (share : Share) (seen : List Entry) → IsShare events workers worker share → HasAsked plant opening share seen → AreAsked plant opening workers worker 0 events [] seen
  by-number workers worker share seen is asked =
      subst (λ (n : ℕ). AreAsked plant opening n worker 0 events [] seen) is.workers_are
      (subst (λ (n : ℕ). AreAsked plant opening share.workers n 0 events [] seen) is.worker_is
      (subst (λ (es : List Event). AreAsked plant opening share.workers share.worker 0 es [] seen) is.events_are asked))

  -- each of the threads that were joined has asked its share
  pub all-asked : {T S H E : Type 0} (result : Result T E) (items : T → List S) (watch : S → List Entry) (crew : List H) (share : H → Share) (workers : ℕ) → length crew ≡ workers →
      ((k : ℕ) (h : H) → k < workers → IsShare events workers k (share (get_or crew k h))) → IfOk result (λ v. length (items v) ≡ length crew) →
      IfOk result (λ v. (k : ℕ) (h : H) (s : S) → k < length crew → HasAsked plant opening (share (get_or crew k h)) (watch (get_or (items v) k s))) →
      IfOk result (λ v. (length (items v) ≡ workers) × ((worker : ℕ) (s : S) → worker < workers → AreAsked plant opening workers worker 0 events [] (watch (get_or (items v) worker s))))
  all-asked (Err e) items watch crew share workers as_many shares joined asked = tt
  all-asked (Ok v) items watch [] share workers as_many shares joined asked = (joined ∙ as_many, λ worker s within. absurd (omega (arith, within, as_many)))
  all-asked {H = H} (Ok v) items watch (h ∷ hs) share workers as_many shares joined asked =
      let crew : List H = h ∷ hs in (
        joined ∙ as_many,
        λ worker s within. by-number workers worker (share (get_or crew worker h)) (watch (get_or (items v) worker s)) (shares worker h within) (asked worker h s (omega (arith, within, as_many))),
      )

module _ (plant : PlantDefinition) (opening : View) (events : List Event) (history : List Entry) where
  -- of as many seats as the host has, that came back from their workers
  pub each-seen : {S : Type 0} (back : List S) (watch : S → List Entry) (seats workers : ℕ) → length back ≡ seats → seats ≡ workers → All (λ xs. IsPrefix xs history) (map watch back) →
      ((worker : ℕ) (d : S) → worker < seats → AreAsked plant opening seats worker 0 events [] (watch (get_or back worker d))) →
      (worker : ℕ) → worker < workers → (seen : List Entry) × AreAsked plant opening workers worker 0 events [] seen × IsPrefix seen history
  each-seen [] watch seats workers back_are as_many known asked worker within = absurd (omega (arith, back_are, as_many))
  each-seen {S} (d ∷ ds) watch seats workers back_are as_many known asked worker within =
      let back : List S = d ∷ ds in
      let here : worker < seats = omega (arith, as_many) in
      let there : worker < length back = omega (arith, as_many, back_are) in
      let seen : List Entry = watch (get_or back worker d) in (
        seen,
        subst (λ n. AreAsked plant opening n worker 0 events [] seen) as_many (asked worker d here),
        subst (λ xs. IsPrefix xs history) (get_or-map watch back worker d (watch d) there)
            (All-get_or (λ xs. IsPrefix xs history) (map watch back) worker (watch d) (subst (λ n. worker < n) (sym (length-map back watch)) there) known),
      )
