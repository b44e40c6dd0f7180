-- A program, an aspect, a certificate and a text have at most one tree.
use Rattle.std.proofs.Common.{◌≡◌, ℕ, List, [], ◌∷◌, Option, Some, None, Bool, refl, sym, ap}
use Rattle.std.specs.Prelude.{codes}
use Rattle.argos_tokens.specs.Tokens.{Token}
use Rattle.argos_grammar.specs.Forms.{Mark, BlockForm, ComponentForm, ProgramForm, AspectForm, Numeral, Formula, Atom, in_state, inactive, same_code, CertForm}
use Rattle.argos_grammar.specs.Grammar as grammar
use Rattle.argos_grammar.specs.Grammar.{Piece, ◌⨾◌, word}
use Rattle.argos_grammar.specs.Text.{IsTextOf, IsText, IsAspectText, IsCertText}
use Rattle.argos_tokens.proofs.TokensOnce.{tokens_once}
use Rattle.argos_grammar.proofs.FirstWords.{piece_begins, IsClearOf, word_begins, word_clear, two_fronts, two_words, word_same}
use Rattle.argos_grammar.proofs.PieceFronts.{sets_begin_no, component_begins, onset_clear, side_clear, atom_clear}
use Rattle.argos_grammar.proofs.OneTree.{One, one_perhaps, one_either, one_name, one_numeral, one_version, one_after, one_before, one_braced, one_both, one_as, one_each, one_separated, one_ended}
use Rattle.argos_grammar.proofs.OneTreeConditions.{Atoms, one_condition}
use Rattle.argos_grammar.proofs.OneTreeProcesses.{one_enclosed_names, one_emitted, one_interface, one_block}

-- components
one_component : (c : ComponentForm) → One [] grammar.component c
one_component c =
    one_as (λ (p : Mark × ((List Mark × List Mark) × BlockForm)). let d : ComponentForm = record { name = p.0; inputs = p.1.0.0; outputs = p.1.0.1; block = p.1.1 } in d)
    (λ (d : ComponentForm). let p : Mark × ((List Mark × List Mark) × BlockForm) = (d.name, ((d.inputs, d.outputs), d.block)) in p) c
    (one_after "component" (one_both (one_name c.name) (one_both (one_interface c.inputs c.outputs) (one_braced refl (one_block c.block)) (λ y ts r h k. tt)) (λ y ts r h k. tt)))
    (λ y. refl) (λ y ts r h. h)

one_more_components : (cs : List ComponentForm) → One (codes "component" ∷ []) (grammar.each grammar.component) cs
one_more_components cs = one_each "component" [] grammar.component refl component_begins one_component cs

components_same : (cs ds : List ComponentForm) (ts us r s : List Token) → ts ≡ us → grammar.components cs ts r → grammar.components ds us s → IsClearOf (codes "component" ∷ []) r → IsClearOf (codes "component" ∷ []) s
    → (cs ≡ ds) × (r ≡ s)
components_same [] ds ts us r s e h k c d = absurd h
components_same (x ∷ cs) [] ts us r s e h k c d = absurd k
components_same (x ∷ cs) (y ∷ ds) ts us r s e h k c d = (one_more_components (x ∷ cs)).same (y ∷ ds) ts us r s e h k c d

one_components : (cs : List ComponentForm) → One (codes "component" ∷ []) grammar.components cs
one_components cs = record { same = λ ds ts us r s e h k c d. components_same cs ds ts us r s e h k c d }

-- programs
program_once : (p : ProgramForm) → One (codes "component" ∷ []) grammar.program p
program_once p =
    one_as (λ (q : ℕ × List ComponentForm). let o : ProgramForm = record { version = q.0; components = q.1 } in o) (λ (o : ProgramForm). let q : ℕ × List ComponentForm = (o.version, o.components) in q) p
    (one_after "argos" (one_both (one_version p.version) (one_after ";" (one_components p.components)) (λ y ts r h k. tt)))
    (λ y. refl) (λ y ts r h. h)

-- aspects
one_advice : (outs : List Mark) (current : Bool) → One [] (λ (p : List Mark × Bool). grammar.advice p.0 p.1) (outs, current)
one_advice outs current =
    let onsets : One [] grammar.onset current = one_either "toCurrent" "toInit" refl refl current in
    one_after "advice" (one_both (one_emitted outs) onsets (λ y ts r h c. onset_clear (codes "emit" ∷ codes "," ∷ []) y ts r refl refl h))

one_observer : (n : ℕ) (cs : List ComponentForm) → One (codes "component" ∷ []) (λ (p : ℕ × List ComponentForm). grammar.observer p.0 p.1) (n, cs)
one_observer n cs = one_after "larissa" (one_both (one_version n) (one_after ";" (one_components cs)) (λ y ts r h k. tt))

one_set : (ns : List Mark) → One [] grammar.set ns
one_set ns = one_after "{" (one_enclosed_names "}" refl refl ns)

one_sets : (ss : List (List Mark)) → One (codes "," ∷ []) grammar.sets ss
one_sets ss = one_separated "," [] grammar.set refl one_set ss

one_trace : (ss : List (List Mark)) → One [] grammar.trace ss
one_trace ss =
    one_as (λ (x : List (List Mark)). x) (λ (x : List (List Mark)). x) ss
    (one_after "[" (one_before ";" refl (one_ended "]" (codes "," ∷ []) grammar.sets refl sets_begin_no one_sets ss)))
    (λ y. refl) (λ y ts r h. (h.0, h.1, (h.2.2.0, (h.2.0, h.2.1, h.2.2.1), h.2.2.2)))

aspect_once : (a : AspectForm) → One [] grammar.aspect a
aspect_once a =
    one_as (λ (p : (ℕ × List ComponentForm) × ((List Mark × Bool) × List (List Mark))). let b : AspectForm = record { version = p.0.0; components = p.0.1; outs = p.1.0.0; current = p.1.0.1; trace = p.1.1 } in b)
    (λ (b : AspectForm). let p : (ℕ × List ComponentForm) × ((List Mark × Bool) × List (List Mark)) = ((b.version, b.components), ((b.outs, b.current), b.trace)) in p) a
    (one_both (one_observer a.version a.components) (one_both (one_advice a.outs a.current) (one_trace a.trace) (λ y ts r h c. tt)) (λ y ts r h c. word_clear (codes "component" ∷ []) "advice" ts h.1.0 refl h.1.1))
    (λ y. refl) (λ y ts r h. h)

-- atoms of certificates
one_side : (a : Bool) → One [] grammar.side a
one_side a = one_either "lhs" "rhs" refl refl a

one_elapsed : (a : Option Numeral) → One (codes "elapsed" ∷ []) grammar.elapsed a
one_elapsed a = one_perhaps "elapsed" (piece_begins "elapsed" grammar.numeral) (λ n. one_after "elapsed" (one_numeral n)) a

claim_same : (a b : Option (Mark × Option Numeral)) (ts us r s : List Token) → ts ≡ us → grammar.claim a ts r → grammar.claim b us s → IsClearOf (codes "elapsed" ∷ []) r → IsClearOf (codes "elapsed" ∷ []) s → (a ≡ b) × (r ≡ s)
claim_same None None ts us r s e h k c d = (refl, word_same "inactive" ts us r s e h k)
claim_same None (Some y) ts us r s e h k c d = absurd (two_words "inactive" "in" ts us r k.0 refl e h k.1)
claim_same (Some x) None ts us r s e h k c d = absurd (two_words "in" "inactive" ts us h.0 s refl e h.1 k)
claim_same (Some x) (Some y) ts us r s e h k c d = let p = (one_after "in" (one_both (one_name x.0) (one_elapsed x.1) (λ z vs w l n. tt))).same y ts us r s e h k c d in (ap (λ z. Some z) p.0, p.1)

-- a side, its register and what is said of it
abbrev Said : Type 0
Said = Bool × (Numeral × Option (Mark × Option Numeral))

abbrev said : Said → Piece
said p = grammar.side p.0 ⨾ grammar.numeral p.1.0 ⨾ grammar.claim p.1.1

abbrev atom_by : Bool → Numeral → Option (Mark × Option Numeral) → Atom
atom_by left n None = inactive left n
atom_by left n (Some c) = in_state left n c.0 c.1

abbrev atom_of : Said → Atom
atom_of p = atom_by p.0 p.1.0 p.1.1

one_said : (p : Said) → One (codes "elapsed" ∷ []) said p
one_said p =
    let claims : One (codes "elapsed" ∷ []) grammar.claim p.1.1 = record { same = λ b ts us r s e h k c d. claim_same p.1.1 b ts us r s e h k c d } in
    one_both (one_side p.0) (one_both (one_numeral p.1.0) claims (λ y ts r h c. tt)) (λ y ts r h c. tt)

said_same : (p : Said) (b : Atom) (ts us r s : List Token) → ts ≡ us → said p ts r → grammar.one_atom b us s → IsClearOf (codes "elapsed" ∷ []) r → IsClearOf (codes "elapsed" ∷ []) s → (atom_of p ≡ b) × (r ≡ s)
said_same p (in_state left n m q) ts us r s e h k c d = let x = (one_said p).same (left, (n, Some (m, q))) ts us r s e h k c d in (ap atom_of x.0, x.1)
said_same p (inactive left n) ts us r s e h k c d = let x = (one_said p).same (left, (n, None)) ts us r s e h k c d in (ap atom_of x.0, x.1)
said_same p (same_code m n) ts us r s e h k c d =
    absurd (two_fronts (codes "samecode") us ts (sym e) (word_begins "samecode" us k.0 k.1) (side_clear (codes "samecode" ∷ []) p.0 ts h.0 refl refl h.1).0)

same_code_same : (m n : Numeral) (b : Atom) (ts us r s : List Token) → ts ≡ us → grammar.one_atom (same_code m n) ts r → grammar.one_atom b us s → (same_code m n ≡ b) × (r ≡ s)
same_code_same m n (same_code m' n') ts us r s e h k =
    let p = (one_after "samecode" (one_both (one_numeral m) (one_numeral n) (λ y vs w l c. tt))).same (m', n') ts us r s e h k tt tt in
    (ap (λ x. same_code x.0 x.1) p.0, p.1)
same_code_same m n (in_state left x y z) ts us r s e h k =
    absurd (two_fronts (codes "samecode") ts us e (word_begins "samecode" ts h.0 h.1) (side_clear (codes "samecode" ∷ []) left us k.0 refl refl k.1).0)
same_code_same m n (inactive left x) ts us r s e h k =
    absurd (two_fronts (codes "samecode") ts us e (word_begins "samecode" ts h.0 h.1) (side_clear (codes "samecode" ∷ []) left us k.0 refl refl k.1).0)

one_atom : (a : Atom) → One (codes "elapsed" ∷ []) grammar.one_atom a
one_atom (in_state left n m q) = record { same = λ b ts us r s e h k c d. said_same (left, (n, Some (m, q))) b ts us r s e h k c d }
one_atom (inactive left n) = record { same = λ b ts us r s e h k c d. said_same (left, (n, None)) b ts us r s e h k c d }
one_atom (same_code m n) = record { same = λ b ts us r s e h k c d. same_code_same m n b ts us r s e h k }

-- certificates
cert_atoms : Atoms (codes "elapsed" ∷ []) grammar.one_atom
cert_atoms = record { one = one_atom; front = atom_clear; no_and = refl; no_or = refl; no_close = refl }

one_relation : (f : Formula Atom) → One [] grammar.relation f
one_relation f = one_after "relation" (one_before ";" refl (one_condition cert_atoms f))

cert_once : (c : CertForm) → One [] grammar.cert c
cert_once c =
    one_as (λ (p : ℕ × Formula Atom). let d : CertForm = record { version = p.0; formula = p.1 } in d) (λ (d : CertForm). let p : ℕ × Formula Atom = (d.version, d.formula) in p) c
    (one_after "bisim" (one_both (one_version c.version) (one_after ";" (one_relation c.formula)) (λ y ts r h k. tt)))
    (λ y. refl) (λ y ts r h. h)

-- a text has one tree, where a piece has
once_in_text : {A : Type 0} {stops : List (List ℕ)} {P : A → Piece} (bs : List ℕ) (x y : A) → IsClearOf stops [] → One stops P x → IsTextOf (P x) bs → IsTextOf (P y) bs → x ≡ y
once_in_text bs x y c one h k = (one.same y h.0 k.0 [] [] (tokens_once bs h.0 k.0 h.2 k.2) h.4 k.4 c c).0

pub one_program_text : (bs : List ℕ) (p q : ProgramForm) → IsText bs p → IsText bs q → p ≡ q
one_program_text bs p q h k = once_in_text bs p q (refl, tt) (program_once p) h k

pub one_aspect_text : (bs : List ℕ) (a b : AspectForm) → IsAspectText bs a → IsAspectText bs b → a ≡ b
one_aspect_text bs a b h k = once_in_text bs a b tt (aspect_once a) h k

pub one_cert_text : (bs : List ℕ) (c d : CertForm) → IsCertText bs c → IsCertText bs d → c ≡ d
one_cert_text bs c d h k = once_in_text bs c d tt (cert_once c) h k
