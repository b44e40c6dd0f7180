-- Pieces of a list that are taken from its rest or put behind its front.
use Rattle.std.proofs.Common.{◌≡◌, ℕ, ◌+◌, ◌-◌, ◌≤◌, List, ◌++◌, length, take, drop, sym, ap, ◌∙◌, length-drop}
use Rattle.std.proofs.Math.Seq.{take-length}
use Rattle.std.proofs.lemmas.List.{take-append-drop, length-take-le, take_at, drop-drop}

-- what is left, where the next n bytes of it were copied to the front of a buffer
pub taken_front : (xs new buf : List ℕ) (at n : ℕ) → new ≡ take n (take (length xs - at) (drop at xs)) → n ≤ length (drop at xs) → drop at xs ≡ take n (new ++ buf) ++ drop (at + n) xs
taken_front xs new buf at n copied h =
    let whole : take (length xs - at) (drop at xs) ≡ drop at xs = ap (λ k. take k (drop at xs)) (sym (length-drop at xs)) ∙ take-length (drop at xs) in
    let new_is : new ≡ take n (drop at xs) = copied ∙ ap (take n) whole in
    let size : length new ≡ n = ap length new_is ∙ length-take-le n (drop at xs) h in
    sym (ap (λ z. z ++ drop (at + n) xs) (take_at new buf n size ∙ new_is) ∙ ap (λ z. take n (drop at xs) ++ z) (sym (drop-drop n at xs)) ∙ take-append-drop n (drop at xs))
