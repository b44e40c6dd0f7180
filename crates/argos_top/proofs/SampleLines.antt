-- The three lines of a sample, as they are put together.
use Rattle.std.proofs.Common.{◌≡◌, ap, sym, ◌∙◌}
use Rattle.std.specs.Prelude.{ℕ, List, [], ◌∷◌, ◌++◌, codes, decimal}
use Rattle.std.proofs.lemmas.List.{append_assoc}
use Rattle.argos_top.specs.Sample.{sample_lines}

-- the pieces one behind the other
chained : (p x q y r : List ℕ) → (((p ++ x) ++ q) ++ y) ++ r ≡ p ++ (x ++ (q ++ (y ++ r)))
chained p x q y r =
    append_assoc ((p ++ x) ++ q) y r ∙ append_assoc (p ++ x) q (y ++ r) ∙ append_assoc p x (q ++ (y ++ r))

-- the lines one behind the other
lined : (p x e m s y r : List ℕ) → (((p ++ x) ++ e) ++ m) ++ ((s ++ y) ++ r) ≡ p ++ (x ++ (e ++ (m ++ (s ++ (y ++ r)))))
lined p x e m s y r =
    append_assoc ((p ++ x) ++ e) m ((s ++ y) ++ r) ∙ append_assoc (p ++ x) e (m ++ ((s ++ y) ++ r)) ∙ append_assoc p x (e ++ (m ++ ((s ++ y) ++ r)))
    ∙ ap (λ (z : List ℕ). p ++ (x ++ (e ++ (m ++ z)))) (append_assoc s y r)

pub lines_made : (n k : ℕ) (a b c d text : List ℕ)
    → a ≡ codes "automata " → b ≡ a ++ decimal n → c ≡ b ++ codes "\nreactions 4096\nemitted " → d ≡ c ++ decimal k → text ≡ d ++ 10 ∷ [] → text ≡ sample_lines n k
lines_made n k a b c d text ha hb hc hd h =
    h ∙ ap (λ (z : List ℕ). z ++ 10 ∷ []) (hd ∙ ap (λ (z : List ℕ). z ++ decimal k) (hc ∙ ap (λ (z : List ℕ). z ++ codes "\nreactions 4096\nemitted ") (hb ∙ ap (λ (z : List ℕ). z ++ decimal n) ha)))
    ∙ chained (codes "automata ") (decimal n) (codes "\nreactions 4096\nemitted ") (decimal k) (10 ∷ [])
    ∙ sym (lined (codes "automata ") (decimal n) (10 ∷ []) (codes "reactions 4096" ++ 10 ∷ []) (codes "emitted ") (decimal k) (10 ∷ []))
