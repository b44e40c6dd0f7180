-- Programs, aspects and certificates, as they are printed.
use Rattle.std.proofs.Common.{◌≡◌, List, [], ◌∷◌, ◌++◌, Bool, true, false, refl, ap, append_assoc}
use Rattle.std.specs.Prelude.{codes, decimal, flat_map, map, option_map, Option, Some, None, IfSome}
use Rattle.std.specs.List.{AllByRecursion}
use Rattle.argos_base.specs.Names.{Spelled}
use Rattle.argos_grammar.specs.Forms.{Mark, ComponentForm, ProgramForm, AspectForm, Numeral, Atom, in_state, inactive, same_code, CertForm}
use Rattle.argos_grammar.specs.Grammar.{◌⨾◌, word, component, components, program, onset, set, sets, optional, aspect, side, elapsed, one_atom, cert}
use Rattle.argos_grammar.specs.Printed.{Words, component_words, program_words, emitted_words, onset_words, braced_words, names_words, separated_words, aspect_words, side_words, elapsed_words, atom_words, cert_words, program_text, aspect_text, cert_text}
use Rattle.argos_grammar.specs.Text.{IsNumber, AreMarks, IsComponent, HasSome, IsProgramForm, IsAspectForm, IsAtom, IsCertForm, IsText, IsAspectText, IsCertText, IsNestedWithin}
use Rattle.argos_grammar.specs.Unplaced.{unplaced_marks, unplaced_numeral, unplaced_component, unplaced_program, unplaced_aspect, unplaced_atom, unplaced_cert, AreEqualPrograms, AreEqualAspects, AreEqualCerts}
use Rattle.argos_grammar.proofs.Prints.{Prints, both, after_word, before_word, only_word, no_words, made, respelled, prints_each, read_back}
use Rattle.argos_grammar.proofs.PrintedLeaves.{prints_name, prints_version, prints_numeral, prints_optional, prints_optional_names, prints_braced, prints_interface, prints_emitted}
use Rattle.argos_grammar.proofs.PrintedConditions.{prints_formula}
use Rattle.argos_grammar.proofs.PrintedProcesses.{prints_block}

-- components
prints_component : (c : ComponentForm) → IsComponent c → Prints (component_words c) component (λ y. unplaced_component y ≡ unplaced_component c)
prints_component c h =
    let whole = after_word "component" refl (both (prints_name c.name h.0) (both (prints_interface c.inputs c.outputs h.1 h.2) (prints_braced (prints_block c.block h.3)))) in
    made whole (λ p. let y : ComponentForm = record { name = p.0; inputs = p.1.0.0; outputs = p.1.0.1; block = p.1.1 } in y) (λ p ts rest k. k)
    (λ p s i. record { name = s.0 i; inputs = s.1.0.0 i; outputs = s.1.0.1 i; block = s.1.1 i })

prints_components : (cs : List ComponentForm) → HasSome cs → AllByRecursion IsComponent cs → Prints (flat_map component_words cs) components (λ ys. map unplaced_component ys ≡ map unplaced_component cs)
prints_components [] some h = absurd some
prints_components (c ∷ cs) some h = made (both (prints_component c h.0) (prints_each component unplaced_component component_words IsComponent prints_component cs h.1)) (λ p. p.0 ∷ p.1) (λ p ts rest k. k) (λ p s i. s.0 i ∷ s.1 i)

-- programs
prints_program : (p : ProgramForm) → IsProgramForm p → Prints (program_words p) program (λ y. unplaced_program y ≡ unplaced_program p)
prints_program p h =
    made (after_word "argos" refl (both (prints_version p.version h.0) (after_word ";" refl (prints_components p.components h.1 h.2)))) (λ q. let y : ProgramForm = record { version = q.0; components = q.1 } in y)
    (λ q ts rest k. k) (λ q s i. record { version = s.0 i; components = s.1 i })

-- aspects
prints_onset : (b : Bool) → Prints (onset_words b) onset (λ y. y ≡ b)
prints_onset true = only_word "toCurrent" true refl (λ ts rest k. k) refl
prints_onset false = only_word "toInit" false refl (λ ts rest k. k) refl

prints_set : (ms : List Mark) → AreMarks ms → Prints (braced_words (names_words ms)) set (λ ys. unplaced_marks ys ≡ unplaced_marks ms)
prints_set ms h = prints_braced (prints_optional_names ms h)

prints_sets : (ss : List (List Mark)) → AllByRecursion AreMarks ss → Prints (separated_words "," (λ s. braced_words (names_words s)) ss) (optional sets) (λ ys. map unplaced_marks ys ≡ map unplaced_marks ss)
prints_sets ss h = prints_optional "," set unplaced_marks (λ s. braced_words (names_words s)) AreMarks refl prints_set ss h

prints_end : Prints {A = Unit {0}} (codes "]" ∷ codes ";" ∷ []) (λ y. word "]" ⨾ word ";") (λ y. Unit {0})
prints_end = after_word "]" refl (only_word ";" tt refl (λ ts rest k. k) tt)

-- the words of an aspect, grouped by its pieces
aspect_order : (cs outs onset ss : Words) (a b c d : Spelled) → cs ++ a ∷ (outs ++ onset ++ b ∷ (ss ++ c ∷ d ∷ [])) ≡ cs ++ (a ∷ []) ++ outs ++ onset ++ (b ∷ []) ++ ss ++ (c ∷ []) ++ (d ∷ [])
aspect_order cs outs onset ss a b c d = simp append_assoc

prints_aspect : (a : AspectForm) → IsAspectForm a → Prints (aspect_words a) aspect (λ y. unplaced_aspect y ≡ unplaced_aspect a)
prints_aspect a h =
    let observer = after_word "larissa" refl (both (prints_version a.version h.0) (after_word ";" refl (prints_components a.components h.1 h.2))) in
    let advice = after_word "advice" refl (both (prints_emitted a.outs h.3) (prints_onset a.current)) in
    let trace = after_word "[" refl (both (prints_sets a.trace h.4) prints_end) in
    let form = made (both observer (both advice trace)) (λ p. let y : AspectForm = record { version = p.0.0; components = p.0.1; outs = p.1.0.0; current = p.1.0.1; trace = p.1.1.0 } in y) (λ p ts rest k. k)
    (λ p s i. record { version = s.0.0 i; components = s.0.1 i; outs = s.1.0.0 i; current = s.1.0.1 i; trace = s.1.1.0 i }) in
    let order = aspect_order (flat_map component_words a.components) (emitted_words a.outs) (onset_words a.current) (separated_words "," (λ s. braced_words (names_words s)) a.trace) (codes "advice") (codes "[") (codes "]") (codes ";") in
    respelled form (ap (λ ws. codes "larissa" ∷ decimal a.version ∷ codes ";" ∷ ws) order)

-- certificates
prints_side : (b : Bool) → Prints (side_words b) side (λ y. y ≡ b)
prints_side true = only_word "lhs" true refl (λ ts rest k. k) refl
prints_side false = only_word "rhs" false refl (λ ts rest k. k) refl

prints_elapsed : (e : Option Numeral) → IfSome e (λ n. IsNumber n.number) → Prints (elapsed_words e) elapsed (λ y. option_map unplaced_numeral y ≡ option_map unplaced_numeral e)
prints_elapsed None h = no_words None (λ ts rest e. e) refl
prints_elapsed (Some e) h = made (after_word "elapsed" refl (prints_numeral e h)) (λ y. Some y) (λ y ts rest k. k) (λ y s i. Some (s i))

prints_atom : (a : Atom) → IsAtom a → Prints (atom_words a) one_atom (λ y. unplaced_atom y ≡ unplaced_atom a)
prints_atom (in_state left r s e) h =
    let claim = after_word "in" refl (both (prints_name s h.1) (prints_elapsed e h.2)) in
    let form = made (both (prints_side left) (both (prints_numeral r h.0) claim)) (λ p. in_state p.0 p.1.0 p.1.1.0 p.1.1.1) (λ p ts rest k. k) (λ p q i. in_state (q.0 i) (q.1.0 i) (q.1.1.0 i) (q.1.1.1 i)) in
    respelled form (simp append_assoc)
prints_atom (inactive left r) h =
    let claim : Prints {A = Unit {0}} (codes "inactive" ∷ []) (λ y. word "inactive") (λ y. Unit {0}) = only_word "inactive" tt refl (λ ts rest k. k) tt in
    let form = made (both (prints_side left) (both (prints_numeral r h) claim)) (λ p. inactive p.0 p.1.0) (λ p ts rest k. k) (λ p q i. inactive (q.0 i) (q.1.0 i)) in
    respelled form (simp append_assoc)
prints_atom (same_code l r) h =
    made (after_word "samecode" refl (both (prints_numeral l h.0) (prints_numeral r h.1))) (λ p. same_code p.0 p.1) (λ p ts rest k. k) (λ p q i. same_code (q.0 i) (q.1 i))

prints_cert : (c : CertForm) → IsCertForm c → Prints (cert_words c) cert (λ y. unplaced_cert y ≡ unplaced_cert c)
prints_cert c h =
    let condition = (prints_formula one_atom atom_words unplaced_atom IsAtom prints_atom c.formula h.1).condition in
    made (after_word "bisim" refl (both (prints_version c.version h.0) (after_word ";" refl (after_word "relation" refl (before_word ";" refl condition))))) (λ p. let y : CertForm = record { version = p.0; formula = p.1 } in y)
    (λ p ts rest k. k) (λ p s i. record { version = s.0 i; formula = s.1 i })

-- what is printed of a well-formed tree is a text of this tree apart from places
pub program_read_back : (p : ProgramForm) → IsProgramForm p → IsNestedWithin (program_text p) → (q : ProgramForm) × IsText (program_text p) q × AreEqualPrograms q p
program_read_back p h = read_back (prints_program p h)

pub aspect_read_back : (a : AspectForm) → IsAspectForm a → IsNestedWithin (aspect_text a) → (b : AspectForm) × IsAspectText (aspect_text a) b × AreEqualAspects b a
aspect_read_back a h = read_back (prints_aspect a h)

pub cert_read_back : (c : CertForm) → IsCertForm c → IsNestedWithin (cert_text c) → (d : CertForm) × IsCertText (cert_text c) d × AreEqualCerts d c
cert_read_back c h = read_back (prints_cert c h)
