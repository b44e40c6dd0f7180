-- Tokens stand in the order of their places, and so does what pieces of the grammar break.
use Rattle.std.proofs.Common.{◌≡◌, ℕ, zero, suc, ◌+◌, ◌<◌, ◌≤◌, List, [], ◌∷◌, ◌++◌, Option, Some, None, true, length, refl, sym, ap, ◌∙◌, subst, append_assoc, arith}
use Prim.Native.String.{String}
use Rattle.std.specs.Prelude.{flat_map, Contains, IsTrue}
use Rattle.std.proofs.lemmas.List.{append-nil}
use Rattle.argos_tokens.specs.Tokens.{Token, is_token, Skips, here, blank, comment, Reads, IsTokens}
use Rattle.argos_grammar.specs.Forms.{Mark, Numeral}
use Rattle.argos_grammar.specs.Grammar.{Piece, ◌⨾◌, nothing, impossible, spelled, word, name, numeral, number, version, count, each, separated, optional, names, listed, emitted, braced}
use Rattle.argos_names.specs.Scope.{Breach}

module _ (end : ℕ) where
  -- where the first of these tokens stands, or the end
  abbrev pub place : List Token → ℕ
  place [] = end
  place (t ∷ ts) = t.at

  abbrev pub Ascends : List Token → Type 0
  Ascends [] = Unit {0}
  Ascends (t ∷ ts) = (t.at < place ts) × Ascends ts

-- broken at ascending places, from one place on and before another
abbrev pub Between : ℕ → ℕ → List Breach → Type 0
Between low high [] = low ≤ high
Between low high (b ∷ bs) = (low ≤ b.mark.at) × Between (b.mark.at + 1) high bs

between_lower : (low mid high : ℕ) (bs : List Breach) → low ≤ mid → Between mid high bs → Between low high bs
between_lower low mid high [] h w = omega arith
between_lower low mid high (b ∷ bs) h w = (let l = w.0 in omega arith, w.1)

pub between_append : (low mid high : ℕ) (xs ys : List Breach) → Between low mid xs → Between mid high ys → Between low high (xs ++ ys)
between_append low mid high [] ys h w = between_lower low mid high ys h w
between_append low mid high (x ∷ xs) ys h w = (h.0, between_append (x.mark.at + 1) mid high xs ys h.1 w)

-- at most one, and at this name
abbrev pub OnlyAt : Mark → List Breach → Type 0
OnlyAt m [] = Unit {0}
OnlyAt m (b ∷ []) = b.mark.at ≡ m.at
OnlyAt m (b ∷ c ∷ bs) = ⊥

only_between : (m : Mark) (bs : List Breach) (high : ℕ) → OnlyAt m bs → m.at < high → Between m.at high bs
only_between m [] high o h = omega arith
only_between m (b ∷ []) high o h = (let e : b.mark.at ≡ m.at = o in omega arith, let e : b.mark.at ≡ m.at = o in omega arith)
only_between m (b ∷ c ∷ bs) high o h = absurd o

module _ (end : ℕ) where
  -- what a piece leads past, and what is broken in it
  pub record Leads (P : Piece) (bs : List Breach) : Type 0 where
    pub past : (ts rest : List Token) → P ts rest → Ascends end ts → Ascends end rest × Between (place end ts) (place end rest) bs

  pub leads_same : (P : Piece) (xs ys : List Breach) → xs ≡ ys → Leads P xs → Leads P ys
  leads_same P xs ys e h = subst (Leads P) e h

  pub leads_then : (P Q : Piece) (xs ys : List Breach) → Leads P xs → Leads Q ys → Leads (P ⨾ Q) (xs ++ ys)
  leads_then P Q xs ys h k = record {
    past = λ ts rest w a.
        let first = h.past ts w.0 w.1 a in
        let second = k.past w.0 rest w.2 first.0 in
        (second.0, between_append (place end ts) (place end w.0) (place end rest) xs ys first.1 second.1);
  }

  pub leads_nothing : Leads nothing []
  leads_nothing = record { past = λ ts rest e a. (subst (Ascends end) e a, let P : List Token → Type 0 = λ us. place end ts ≤ place end us in subst P e (omega arith)) }

  pub leads_impossible : (bs : List Breach) → Leads impossible bs
  leads_impossible bs = record { past = λ ts rest h a. absurd h }

  spelled_past : (w : List ℕ) (ts rest : List Token) → spelled w ts rest → Ascends end ts → Ascends end rest × Between (place end ts) (place end rest) []
  spelled_past w [] rest h a = absurd h
  spelled_past w (t ∷ ts) rest h a =
      let P : List Token → Type 0 = λ us. Ascends end us × (t.at ≤ place end us) in
      let low : t.at < place end ts = a.0 in
      let both : P ts = (a.1, omega arith) in
      subst P h.1 both

  pub leads_word : (w : String) → Leads (word w) []
  leads_word w = record { past = spelled_past _ }

  -- words round a piece
  pub leads_behind : (w : String) (P : Piece) (bs : List Breach) → Leads P bs → Leads (word w ⨾ P) bs
  leads_behind w P bs h = leads_then (word w) P [] bs (leads_word w) h

  pub leads_before : (w : String) (P : Piece) (bs : List Breach) → Leads P bs → Leads (P ⨾ word w) bs
  leads_before w P bs h = leads_same (P ⨾ word w) (bs ++ []) bs (append-nil bs) (leads_then P (word w) bs [] h (leads_word w))

  pub leads_braced : (P : Piece) (bs : List Breach) → Leads P bs → Leads (braced P) bs
  leads_braced P bs h = leads_behind "{" (P ⨾ word "}") bs (leads_before "}" P bs h)

  -- a name at which a rule may be broken
  name_past : (m : Mark) (bs : List Breach) → OnlyAt m bs → (ts rest : List Token) → name m ts rest → Ascends end ts → Ascends end rest × Between (place end ts) (place end rest) bs
  name_past m bs o [] rest h a = absurd h
  name_past m bs o (t ∷ ts) rest h a =
      let at : m.at ≡ t.at = h.2 in
      let low : t.at < place end ts = a.0 in
      let P : List Token → Type 0 = λ us. Ascends end us × Between t.at (place end us) bs in
      let Q : ℕ → Type 0 = λ n. Between n (place end ts) bs in
      let both : P ts = (a.1, subst Q at (only_between m bs (place end ts) o (omega arith))) in
      subst P h.3 both

  pub leads_name : (m : Mark) (bs : List Breach) → OnlyAt m bs → Leads (name m) bs
  leads_name m bs o = record { past = name_past m bs o }

  -- numbers
  numeral_past : (n : Numeral) (ts rest : List Token) → numeral n ts rest → Ascends end ts → Ascends end rest × Between (place end ts) (place end rest) []
  numeral_past n [] rest h a = absurd h
  numeral_past n (t ∷ ts) rest h a =
      let P : List Token → Type 0 = λ us. Ascends end us × (t.at ≤ place end us) in
      let low : t.at < place end ts = a.0 in
      let both : P ts = (a.1, omega arith) in
      subst P h.3 both

  pub leads_number : (n : ℕ) → Leads (number n) []
  leads_number n = record { past = λ ts rest h a. numeral_past (record { number = n; at = h.0 }) ts rest h.1 a }

  pub leads_version : (n : ℕ) → Leads (version n) []
  leads_version n = record { past = λ ts rest h a. (leads_number n).past ts rest h.1 a }

  pub leads_count : (n : ℕ) → Leads (count n) []
  leads_count n = record { past = λ ts rest h a. (leads_number n).past ts rest h.1 a }

  -- one after the other
  module _ {A : Type 0} (f : A → List Breach) where
    pub leads_each : (P : A → Piece) → ((x : A) → Leads (P x) (f x)) → (xs : List A) → Leads (each P xs) (flat_map f xs)
    leads_each P h [] = leads_nothing
    leads_each P h (x ∷ xs) = leads_then (P x) (each P xs) (f x) (flat_map f xs) (h x) (leads_each P h xs)

    pub leads_separated : (w : String) (P : A → Piece) → ((x : A) → Leads (P x) (f x)) → (xs : List A) → Leads (separated w P xs) (flat_map f xs)
    leads_separated w P h [] = leads_impossible []
    leads_separated w P h (x ∷ xs) = leads_then (P x) (each (λ y. word w ⨾ P y) xs) (f x) (flat_map f xs) (h x) (leads_each (λ y. word w ⨾ P y) (λ y. leads_behind w (P y) (f y) (h y)) xs)

  module _ (f : Mark → List Breach) (only : (m : Mark) → OnlyAt m (f m)) where
    pub leads_names : (ns : List Mark) → Leads (names ns) (flat_map f ns)
    leads_names ns = leads_separated f "," name (λ m. leads_name m (f m) (only m)) ns

    leads_some_names : (ns : List Mark) → Leads (optional names ns) (flat_map f ns)
    leads_some_names [] = leads_nothing
    leads_some_names (n ∷ ns) = leads_names (n ∷ ns)

    pub leads_listed : (ns : List Mark) → Leads (listed ns) (flat_map f ns)
    leads_listed ns = leads_behind "(" (optional names ns ⨾ word ")") (flat_map f ns) (leads_before ")" (optional names ns) (flat_map f ns) (leads_some_names ns))

    pub leads_emitted : (ns : List Mark) → Leads (emitted ns) (flat_map f ns)
    leads_emitted [] = leads_nothing
    leads_emitted (n ∷ ns) = leads_behind "emit" (names (n ∷ ns)) (flat_map f (n ∷ ns)) (leads_names (n ∷ ns))

-- the tokens of a text
skips_on : {n m : ℕ} {bs rest : List ℕ} → Skips n bs m rest → n ≤ m
skips_on here = omega arith
skips_on (blank b s) = let l = skips_on s in omega arith
skips_on (comment inside after e a l s) = let h = skips_on s in omega arith

some_text : (text : List ℕ) → IsTrue (is_token text) → 0 < length text
some_text [] h = cc
some_text (b ∷ bs) h = omega arith

tokens_ascend : (end n : ℕ) (bs : List ℕ) (ts : List Token) (m : ℕ) (rest : List ℕ) → Reads n bs ts m rest → Skips m rest end [] → (n ≤ place end ts) × Ascends end ts
tokens_ascend end n bs [] m rest h s = let l = skips_on s in (let e : n ≡ m = h.0 in omega arith, tt)
tokens_ascend end n bs (t ∷ ts) m rest h s =
    let low = skips_on h.1 in
    let some = some_text t.text h.2 in
    let more = tokens_ascend end (t.at + length t.text) h.0 ts m rest h.4 s in
    (low, (let l = more.0 in omega arith, more.1))

pub text_ascends : (bs : List ℕ) (ts : List Token) → IsTokens bs ts → Ascends (length bs) ts
text_ascends bs ts h = (tokens_ascend (length bs) 0 bs ts h.0 h.1 h.2 h.3).1

-- of ascending places no two are the same
not_below : (low high : ℕ) (bs : List Breach) (b : Breach) → Between low high bs → Contains bs b → low ≤ b.mark.at
not_below low high [] b w (k, h, e) = absurd (omega arith)
not_below low high (x ∷ bs) b w (zero, h, e) = let same : x ≡ b = e in let P : Breach → Type 0 = λ y. low ≤ y.mark.at in subst P same w.0
not_below low high (x ∷ bs) b w (suc k, h, e) =
    let later = not_below (x.mark.at + 1) high bs b w.1 (k, omega arith, e) in
    let first : low ≤ x.mark.at = w.0 in
    omega arith

pub one_at : (low high : ℕ) (bs : List Breach) (b c : Breach) → Between low high bs → Contains bs b → Contains bs c → b.mark.at ≡ c.mark.at → b ≡ c
one_at low high [] b c w (k, h, e) d s = absurd (omega arith)
one_at low high (x ∷ bs) b c w (zero, h, e) (zero, l, d) s = let p : x ≡ b = e in let q : x ≡ c = d in sym p ∙ q
one_at low high (x ∷ bs) b c w (zero, h, e) (suc j, l, d) s =
    let p : x ≡ b = e in
    let at : x.mark.at ≡ b.mark.at = ap (λ y. y.mark.at) p in
    let later = not_below (x.mark.at + 1) high bs c w.1 (j, omega arith, d) in
    absurd (omega arith)
one_at low high (x ∷ bs) b c w (suc k, h, e) (zero, l, d) s =
    let p : x ≡ c = d in
    let at : x.mark.at ≡ c.mark.at = ap (λ y. y.mark.at) p in
    let later = not_below (x.mark.at + 1) high bs b w.1 (k, omega arith, e) in
    absurd (omega arith)
one_at low high (x ∷ bs) b c w (suc k, h, e) (suc j, l, d) s = one_at (x.mark.at + 1) high bs b c w.1 (k, omega arith, e) (j, omega arith, d) s
