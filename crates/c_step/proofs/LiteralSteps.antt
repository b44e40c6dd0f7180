-- Literals that are read one after the other.
use Rattle.std.proofs.Common.{◌≡◌, ℕ, zero, suc, ◌<◌, List, [], ◌∷◌, ◌++◌, Bool, true, false, cond, Option, Some, None, length, map, refl, sym, ap, ◌∙◌, append_assoc, length-append, arith}
use Rattle.std.specs.Prelude.{codes, bytes_eq}
use Rattle.std.proofs.lemmas.List.{append-nil, map-append}
use Rattle.eqn_core.specs.Equations.{Literal}
use Rattle.eqn_core.specs.Views.{literal_of}
use Rattle.eqn_core.specs.declared.system.Lit.{Lit}
use Rattle.line_format.specs.Numerals.{numeral}
use Rattle.line_format.proofs.Options.{bind}
use Rattle.c_step.specs.CFile.{bit_place, literal_then}
use Rattle.c_step.specs.inner.Pieces.{behind, Taken, taken}
use Rattle.c_step.specs.inner.LineReading.{Scope, take_literal, more_literals, all_literals}
use Rattle.c_step.specs.inner.Taking.{Refuses}
use Rattle.c_step.specs.declared.errors.CError.{CError}
use Rattle.c_step.specs.declared.errors.CError.TheVariants.{NotSubset, OutOfMemory}
use Rattle.c_step.proofs.PieceReads.{bind_reads, behind_is, take_literal_is}

-- what is left is shorter
place_longer : (k : ℕ) (rest : List ℕ) → length rest < length (bit_place k rest)
place_longer k rest = omega (arith, length-append (codes "m->b[") (numeral k ++ (codes "]" ++ rest)), length-append (numeral k) (codes "]" ++ rest), length-append (codes "]") rest)

literal_longer_at : (k : ℕ) (b : Bool) (rest : List ℕ) → let l : Literal = record { bit = k; negated = b } in length rest < length (literal_then l rest)
literal_longer_at k true rest = omega (arith, length-append (codes "!") (bit_place k rest), place_longer k rest)
literal_longer_at k false rest = place_longer k rest

pub shorter : (sign : List ℕ) (sc : Scope) (l r : List ℕ) (t : Taken Literal) → behind sign l ≡ Some r → take_literal sc r ≡ Some t → length t.rest < length l
shorter sign sc l r t e f =
    omega (arith, ap length (behind_is sign l r e), length-append sign r, ap length (take_literal_is sc r t f).0, literal_longer_at t.value.bit t.value.negated t.rest)

-- one step, where the rest is read so
abbrev go_on : (List ℕ → Option (List Literal)) → Scope → List ℕ → Option (List Literal)
go_on go sc r = bind (take_literal sc r) (λ t. bind (go t.rest) (λ ks. Some (t.value ∷ ks)))

abbrev one_step : (List ℕ → Option (List Literal)) → List ℕ → Scope → List ℕ → Option (List Literal)
one_step go sign sc l = cond (bytes_eq l (codes ";")) (Some []) (bind (behind sign l) (go_on go sc))

alike_literal : (go go' : List ℕ → Option (List Literal)) (sign : List ℕ) (sc : Scope) (l r : List ℕ) → behind sign l ≡ Some r → ((rest : List ℕ) → length rest < length l → go rest ≡ go' rest) → (o : Option (Taken Literal)) → take_literal sc r ≡ o → go_on go sc r ≡ go_on go' sc r
alike_literal go go' sign sc l r f h None g = ap (λ o. bind o (λ t. bind (go t.rest) (λ ks. Some (t.value ∷ ks)))) g ∙ sym (ap (λ o. bind o (λ t. bind (go' t.rest) (λ ks. Some (t.value ∷ ks)))) g)
alike_literal go go' sign sc l r f h (Some t) g =
    ap (λ o. bind o (λ t. bind (go t.rest) (λ ks. Some (t.value ∷ ks)))) g ∙ ap (λ o. bind o (λ ks. Some (t.value ∷ ks))) (h t.rest (shorter sign sc l r t f g))
    ∙ sym (ap (λ o. bind o (λ t. bind (go' t.rest) (λ ks. Some (t.value ∷ ks)))) g)

alike_text : (go go' : List ℕ → Option (List Literal)) (sign : List ℕ) (sc : Scope) (l : List ℕ) → ((rest : List ℕ) → length rest < length l → go rest ≡ go' rest) → (o : Option (List ℕ)) → behind sign l ≡ o → one_step go sign sc l ≡ one_step go' sign sc l
alike_text go go' sign sc l h None f = ap (λ o. cond (bytes_eq l (codes ";")) (Some []) (bind o (go_on go sc))) f ∙ sym (ap (λ o. cond (bytes_eq l (codes ";")) (Some []) (bind o (go_on go' sc))) f)
alike_text go go' sign sc l h (Some r) f =
    ap (λ o. cond (bytes_eq l (codes ";")) (Some []) (bind o (go_on go sc))) f ∙ ap (λ o. cond (bytes_eq l (codes ";")) (Some []) o) (alike_literal go go' sign sc l r f h (take_literal sc r) refl)
    ∙ sym (ap (λ o. cond (bytes_eq l (codes ";")) (Some []) (bind o (go_on go' sc))) f)

-- any number of steps above the length will do
enough : (n m : ℕ) (sign : List ℕ) (sc : Scope) (l : List ℕ) → length l < n → length l < m → more_literals n sign sc l ≡ more_literals m sign sc l
enough zero m sign sc l h e = absurd (omega arith)
enough (suc n) zero sign sc l h e = absurd (omega arith)
enough (suc n) (suc m) sign sc l h e = alike_text (more_literals n sign sc) (more_literals m sign sc) sign sc l (λ rest less. enough n m sign sc rest (omega arith) (omega arith)) (behind sign l) refl

-- one literal is read
more_is : (sign : List ℕ) (sc : Scope) (l r : List ℕ) (t : Taken Literal) → bytes_eq l (codes ";") ≡ false → behind sign l ≡ Some r → take_literal sc r ≡ Some t → all_literals sign sc l ≡ bind (all_literals sign sc t.rest) (λ ks. Some (t.value ∷ ks))
more_is sign sc l r t e f g =
    let less : length t.rest < length l = shorter sign sc l r t f g in
    let go : List ℕ → Option (List Literal) = more_literals (length l) sign sc in
    ap (λ b. cond b (Some []) (bind (behind sign l) (go_on go sc))) e
    ∙ bind_reads (behind sign l) (go_on go sc) r (bind (all_literals sign sc t.rest) (λ ks. Some (t.value ∷ ks))) f
    (bind_reads (take_literal sc r) (λ t. bind (go t.rest) (λ ks. Some (t.value ∷ ks))) t (bind (all_literals sign sc t.rest) (λ ks. Some (t.value ∷ ks))) g
    (ap (λ o. bind o (λ ks. Some (t.value ∷ ks))) (enough (length l) (suc (length t.rest)) sign sc t.rest less (omega arith))))

-- from these bytes on so much is read, and these are left
pub record IsPartRead (sign : List ℕ) (sc : Scope) (start rest : List ℕ) (old now : List Lit) : Type 0 where
  pub so_far : List Literal
  pub items : map literal_of now ≡ map literal_of old ++ so_far
  pub said : all_literals sign sc start ≡ bind (all_literals sign sc rest) (λ ks. Some (so_far ++ ks))

bind_same : (o : Option (List Literal)) → o ≡ bind o (λ ks. Some ([] ++ ks))
bind_same None = refl
bind_same (Some ks) = refl

pub nothing_read : (sign : List ℕ) (sc : Scope) (l : List ℕ) (xs : List Lit) → IsPartRead sign sc l l xs xs
nothing_read sign sc l xs = record { so_far = []; items = sym (append-nil (map literal_of xs)); said = bind_same (all_literals sign sc l) }

bind_more : (o : Option (List Literal)) (front : List Literal) (x : Literal) → bind (bind o (λ ks. Some (x ∷ ks))) (λ ks. Some (front ++ ks)) ≡ bind o (λ ks. Some ((front ++ x ∷ []) ++ ks))
bind_more None front x = refl
bind_more (Some ks) front x = ap (λ z. Some z) (sym (append_assoc front (x ∷ []) ks))

pub one_more_read : (sign : List ℕ) (sc : Scope) (start l r rest : List ℕ) (old now new : List Lit) (x : Lit) → IsPartRead sign sc start l old now → bytes_eq l (codes ";") ≡ false → behind sign l ≡ Some r → take_literal sc r ≡ Some (taken (literal_of x) rest) → new ≡ now ++ x ∷ []
    → IsPartRead sign sc start rest old new
one_more_read sign sc start l r rest old now new x h e f g k = record {
  so_far = h.so_far ++ literal_of x ∷ [];
  items = ap (map literal_of) k ∙ map-append literal_of now (x ∷ []) ∙ ap (λ z. z ++ literal_of x ∷ []) h.items ∙ append_assoc (map literal_of old) h.so_far (literal_of x ∷ []);
  said = h.said ∙ ap (λ o. bind o (λ ks. Some (h.so_far ++ ks))) (more_is sign sc l r (taken (literal_of x) rest) e f g) ∙ bind_more (all_literals sign sc rest) h.so_far (literal_of x);
}

pub all_read : (sign : List ℕ) (sc : Scope) (start l : List ℕ) (old now : List Lit) → IsPartRead sign sc start l old now → bytes_eq l (codes ";") ≡ true → (more : List Literal) × (all_literals sign sc start ≡ Some more) × (map literal_of now ≡ map literal_of old ++ more)
all_read sign sc start l old now h e = (
  h.so_far,
  h.said ∙ ap (λ b. bind (cond b (Some []) (bind (behind sign l) (go_on (more_literals (length l) sign sc) sc))) (λ ks. Some (h.so_far ++ ks))) e ∙ ap (λ z. Some z) (append-nil h.so_far),
  h.items,
)

-- what isn't read
nothing_said : (sign : List ℕ) (sc : Scope) (start l : List ℕ) (old now : List Lit) → IsPartRead sign sc start l old now → bytes_eq l (codes ";") ≡ false → bind (behind sign l) (go_on (more_literals (length l) sign sc) sc) ≡ None → all_literals sign sc start ≡ None
nothing_said sign sc start l old now h e f =
    h.said ∙ ap (λ b. bind (cond b (Some []) (bind (behind sign l) (go_on (more_literals (length l) sign sc) sc))) (λ ks. Some (h.so_far ++ ks))) e ∙ ap (λ o. bind o (λ ks. Some (h.so_far ++ ks))) f

pub no_sign : (sign : List ℕ) (sc : Scope) (start l : List ℕ) (old now : List Lit) (at at' : ℕ) (e : CError) → IsPartRead sign sc start l old now → bytes_eq l (codes ";") ≡ false → at ≡ at' → Refuses at (behind sign l) e → Refuses at' (all_literals sign sc start) e
no_sign sign sc start l old now at at' (NotSubset n) h e f r = (r.0 ∙ f, nothing_said sign sc start l old now h e (ap (λ o. bind o (go_on (more_literals (length l) sign sc) sc)) r.1))
no_sign sign sc start l old now at at' OutOfMemory h e f r = tt

pub no_literal : (sign : List ℕ) (sc : Scope) (start l r : List ℕ) (old now : List Lit) (at at' : ℕ) (e : CError) → IsPartRead sign sc start l old now → bytes_eq l (codes ";") ≡ false → behind sign l ≡ Some r → at ≡ at' → Refuses at (take_literal sc r) e → Refuses at' (all_literals sign sc start) e
no_literal sign sc start l r old now at at' (NotSubset n) h e g f k = (
  k.0 ∙ f,
  nothing_said sign sc start l old now h e
      (bind_reads (behind sign l) (go_on (more_literals (length l) sign sc) sc) r None g (ap (λ o. bind o (λ t. bind (more_literals (length l) sign sc t.rest) (λ ks. Some (t.value ∷ ks)))) k.1)),
)
no_literal sign sc start l r old now at at' OutOfMemory h e g f k = tt
