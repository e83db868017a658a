-- Parts of lists of texts that are lent.
use Rattle.std.proofs.Common.{◌≡◌, ℕ, sym, List, take, drop}
use Rattle.std.specs.Borrow.{Bor}
use Rattle.std.proofs.lemmas.List.{take-map, drop-map}
use Rattle.shown_fault.specs.Lent.{lists_of}

pub lists_taken : (count : ℕ) (texts : List (Bor (List ℕ))) → lists_of (take count texts) ≡ take count (lists_of texts)
lists_taken count texts = sym (take-map (λ text. text.now) count texts)

pub lists_dropped : (count : ℕ) (texts : List (Bor (List ℕ))) → lists_of (drop count texts) ≡ drop count (lists_of texts)
lists_dropped count texts = sym (drop-map (λ text. text.now) count texts)
