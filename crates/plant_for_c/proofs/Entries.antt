-- Numbers in order.
use Rattle.std.proofs.Common.{◌≡◌, ◌⊎◌, inl, inr, ⊎_elim, ℕ, zero, suc, ◌<◌, refl, ap, arith}

-- of two numbers one is below the other, or they are one
pub order_of : (a b : ℕ) → (a ≡ b) ⊎ ((a < b) ⊎ (b < a))
order_of zero zero = inl refl
order_of zero (suc b) = inr (inl (omega arith))
order_of (suc a) zero = inr (inr (omega arith))
order_of (suc a) (suc b) = ⊎_elim (λ e. inl (ap suc e)) (λ o. inr (⊎_elim (λ l. inl (omega (arith, l))) (λ m. inr (omega (arith, m))) o)) (order_of a b)
