-- The lines of digits, one after the other.
use Rattle.std.proofs.Common.{◌≡◌, ℕ, suc, ◌+◌, ◌<◌, List, [], ◌∷◌, ◌++◌, length, drop, get_or, sym, ap, ◌∙◌, arith, append_assoc}
use Rattle.std.proofs.lemmas.List.{drop_more}
use Rattle.eqn_core.specs.Equations.{Line, digit}
use Rattle.eqn_dd.specs.Placed.{Register}
use Rattle.eqn_verdict.specs.Branches.{digits_of, digit_lines}
use Rattle.instant_verdict.specs.inner.Decoded.{register_widths}

-- the next digit of a register
pub digit_more : (r w v : ℕ) (done made : List Line) → w ≡ suc v → made ≡ done ++ digit r v ∷ []
    → made ++ digits_of r v ≡ done ++ digits_of r w
digit_more r w v done made next pushed =
    ap (λ (ls : List Line). ls ++ digits_of r v) pushed ∙ append_assoc done (digit r v ∷ []) (digits_of r v)
    ∙ ap (λ (k : ℕ). done ++ digits_of r k) (sym next)

-- the digits of the next register
pub register_more : (registers : List Register) (i : ℕ) (d : Register) (done made : List Line)
    → i < length registers → made ≡ done ++ digits_of i (get_or registers i d).1
    → made ++ digit_lines (i + 1) (register_widths (drop (i + 1) registers)) ≡ done
    ++ digit_lines i (register_widths (drop i registers))
register_more registers i d done made inside pushed =
    let r = get_or registers i d in
    let rest = register_widths (drop (i + 1) registers) in
    let next : i + 1 ≡ suc i = omega arith in
    ap (λ (ls : List Line). ls ++ digit_lines (i + 1) rest) pushed
    ∙ append_assoc done (digits_of i r.1) (digit_lines (i + 1) rest)
    ∙ ap (λ (k : ℕ). done ++ (digits_of i r.1 ++ digit_lines k rest)) next
    ∙ ap (λ (rs : List Register). done
    ++ digit_lines i (register_widths rs)) (sym (drop_more registers i d inside))
