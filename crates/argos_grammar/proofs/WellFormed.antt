-- The tree of a text is well formed.
use Rattle.std.proofs.Common.{ℕ, List, [], ◌∷◌, Option, Some, None, refl, sym, subst}
use Prim.Native.String.{String}
use Rattle.std.specs.Prelude.{IfSome}
use Rattle.std.specs.List.{AllByRecursion}
use Rattle.argos_base.specs.Spelling.{IsName}
use Rattle.argos_tokens.specs.Tokens.{Token}
use Rattle.argos_grammar.specs.Forms.{Mark, Formula, Formulas, TransForm, TimedForm, Head, ProcessForm, automaton, local, freeze, run, BlockForm, no_processes, process, StateForms, no_states, state, BodyForm, plain, refined, ComponentForm, ProgramForm, AspectForm, Numeral, Atom, in_state, inactive, same_code, CertForm}
use Rattle.argos_grammar.specs.Grammar as grammar
use Rattle.argos_grammar.specs.Grammar.{Piece, ◌⨾◌, word, each, separated, optional, IsUnit, AreUnits, IsPart, AreParts, IsCondition, the_yes, the_no, the_atom, the_opposite, enclosed, no_more_units, more_units, one_unit, units, no_more_parts, more_parts, one_part, parts}
use Rattle.argos_grammar.specs.Text.{IsNumber, IsMark, AreMarks, IsFormula, AreFormulas, IsTrans, IsTimeout, IsHead, HasSome, IsProcess, IsBlock, AreStates, IsBody, IsComponent, IsProgramForm, IsAspectForm, IsAtom, IsCertForm, IsText, IsAspectText, IsCertText}

-- names, numbers and versions
name_formed : (m : Mark) (ts rest : List Token) → grammar.name m ts rest → IsMark m
name_formed m [] rest h = absurd h
name_formed m (t ∷ ts) rest h = subst IsName (sym h.1) h.0

numeral_formed : (n : Numeral) (ts rest : List Token) → grammar.numeral n ts rest → IsNumber n.number
numeral_formed n [] rest h = absurd h
numeral_formed n (t ∷ ts) rest h = h.1

number_formed : (n : ℕ) (ts rest : List Token) → grammar.number n ts rest → IsNumber n
number_formed n ts rest h = numeral_formed (record { number = n; at = h.0 }) ts rest h.1

-- what each piece gives of its tree, all of them give of theirs
abbrev Gives : {A : Type 0} → (A → Piece) → (A → Type 0) → Type 0
Gives {A} P Q = (x : A) (ts rest : List Token) → P x ts rest → Q x

each_formed : {A : Type 0} (P : A → Piece) (Q : A → Type 0) → Gives P Q → (xs : List A) (ts rest : List Token) → each P xs ts rest → AllByRecursion Q xs
each_formed P Q g [] ts rest h = tt
each_formed P Q g (x ∷ xs) ts rest h = (g x ts h.0 h.1, each_formed P Q g xs h.0 rest h.2)

separated_formed : {A : Type 0} (w : String) (P : A → Piece) (Q : A → Type 0) → Gives P Q → (xs : List A) (ts rest : List Token) → separated w P xs ts rest → HasSome xs × AllByRecursion Q xs
separated_formed w P Q g [] ts rest h = absurd h
separated_formed w P Q g (x ∷ xs) ts rest h = (tt, (g x ts h.0 h.1, each_formed (λ y. word w ⨾ P y) Q (λ y us vs k. g y k.0 vs k.2) xs h.0 rest h.2))

optional_formed : {A : Type 0} (P : List A → Piece) (Q : A → Type 0) → Gives P (AllByRecursion Q) → (xs : List A) (ts rest : List Token) → optional P xs ts rest → AllByRecursion Q xs
optional_formed P Q g [] ts rest h = tt
optional_formed P Q g (x ∷ xs) ts rest h = g (x ∷ xs) ts rest h

names_formed : (ns : List Mark) (ts rest : List Token) → grammar.names ns ts rest → HasSome ns × AreMarks ns
names_formed ns ts rest h = separated_formed "," grammar.name IsMark name_formed ns ts rest h

some_names_formed : (ns : List Mark) (ts rest : List Token) → optional grammar.names ns ts rest → AreMarks ns
some_names_formed ns ts rest h = optional_formed grammar.names IsMark (λ xs us vs k. (names_formed xs us vs k).1) ns ts rest h

listed_formed : (ns : List Mark) (ts rest : List Token) → grammar.listed ns ts rest → AreMarks ns
listed_formed ns ts rest h = some_names_formed ns h.0 h.2.0 h.2.1

emitted_formed : (ns : List Mark) (ts rest : List Token) → grammar.emitted ns ts rest → AreMarks ns
emitted_formed ns ts rest h = optional_formed (λ xs. word "emit" ⨾ grammar.names xs) IsMark (λ xs us vs k. (names_formed xs k.0 vs k.2).1) ns ts rest h

-- conditions, where the atoms are well formed
mutual
  unit_formed : {A : Type 0} {P : A → List Token → List Token → Type 0} (Q : A → Type 0) → Gives P Q → {f : Formula A} {ts rest : List Token} → IsUnit P f ts rest → IsFormula Q f
  unit_formed Q g (the_yes w) = tt
  unit_formed Q g (the_no w) = tt
  unit_formed Q g (the_atom {a = a} {ts = ts} {rest = rest} h) = g a ts rest h
  unit_formed Q g (the_opposite w u) = unit_formed Q g u
  unit_formed Q g (enclosed w c v) = condition_formed Q g c

  units_formed : {A : Type 0} {P : A → List Token → List Token → Type 0} (Q : A → Type 0) → Gives P Q → {fs : Formulas A} {ts rest : List Token} → AreUnits P fs ts rest → AreFormulas 0 Q fs
  units_formed Q g no_more_units = refl
  units_formed Q g (more_units w u more) = (unit_formed Q g u, units_formed Q g more)

  part_formed : {A : Type 0} {P : A → List Token → List Token → Type 0} (Q : A → Type 0) → Gives P Q → {f : Formula A} {ts rest : List Token} → IsPart P f ts rest → IsFormula Q f
  part_formed Q g (one_unit u) = unit_formed Q g u
  part_formed Q g (units u more) = (unit_formed Q g u, units_formed Q g more)

  parts_formed : {A : Type 0} {P : A → List Token → List Token → Type 0} (Q : A → Type 0) → Gives P Q → {fs : Formulas A} {ts rest : List Token} → AreParts P fs ts rest → AreFormulas 0 Q fs
  parts_formed Q g no_more_parts = refl
  parts_formed Q g (more_parts w p more) = (part_formed Q g p, parts_formed Q g more)

  condition_formed : {A : Type 0} {P : A → List Token → List Token → Type 0} (Q : A → Type 0) → Gives P Q → {f : Formula A} {ts rest : List Token} → IsCondition P f ts rest → IsFormula Q f
  condition_formed Q g (one_part p) = part_formed Q g p
  condition_formed Q g (parts p more) = (part_formed Q g p, parts_formed Q g more)

-- transitions, timeouts and states
effect_formed : (outs : List Mark) (target : Mark) (ts rest : List Token) → grammar.effect outs target ts rest → AreMarks outs × IsMark target
effect_formed outs target ts rest h = (emitted_formed outs ts h.0 h.1, name_formed target h.2.0 h.2.2.0 h.2.2.1)

trans_formed : (t : TransForm) (ts rest : List Token) → grammar.trans t ts rest → IsTrans t
trans_formed t ts rest h = let e = effect_formed t.outs t.target h.2.0 rest h.2.2 in (condition_formed IsMark name_formed h.2.1, e.0, e.1)

timeout_formed : (t : Option TimedForm) (ts rest : List Token) → grammar.timeout t ts rest → IsTimeout t
timeout_formed None ts rest h = tt
timeout_formed (Some t) ts rest h =
    let count = h.1.2.1 in
    let e = effect_formed t.outs t.target h.2.0 rest h.2.2 in
    (count.0, number_formed t.count h.1.0 h.1.2.0 count.1, name_formed t.signal h.0 h.2.0 h.2.1, e.0, e.1)

head_formed : (h : Head) (B : Piece) (ts rest : List Token) → grammar.one_state h B ts rest → IsHead h
head_formed h B ts rest k =
    let named = k.2 in
    let inner = named.2.2.2.1 in
    (name_formed h.name k.0 named.0 named.1, each_formed grammar.trans IsTrans trans_formed h.trans named.2.2.0 inner.0 inner.1, timeout_formed h.timed inner.0 named.2.2.2.0 inner.2)

-- processes, blocks, states and bodies
mutual
  process_formed : (p : ProcessForm) (ts rest : List Token) → grammar.one_process p ts rest → IsProcess p
  process_formed (automaton i ss) ts rest h = let inner = h.2.2.1 in (name_formed i inner.0 inner.2.0 inner.2.1, states_formed ss inner.2.2.0 h.2.2.0 inner.2.2.2)
  process_formed (local ns b) ts rest h = let n = names_formed ns h.0 h.2.0 h.2.1 in let k = h.2.2.2 in (n.0, n.1, block_formed b k.0 k.2.0 k.2.1)
  process_formed (freeze s b) ts rest h = let k = h.2.2.2 in (name_formed s h.0 h.2.0 h.2.1, block_formed b k.0 k.2.0 k.2.1)
  process_formed (run c xs ys) ts rest h = let k = h.2.2 in (name_formed c h.0 h.2.0 h.2.1, listed_formed xs h.2.0 k.0 k.1, listed_formed ys k.2.0 rest k.2.2)

  block_formed : (b : BlockForm) (ts rest : List Token) → grammar.processes b ts rest → IsBlock 1 b
  block_formed no_processes ts rest h = absurd h
  block_formed (process p b) ts rest h = (process_formed p ts h.0 h.1, more_formed b h.0 rest h.2)

  more_formed : (b : BlockForm) (ts rest : List Token) → grammar.more_processes b ts rest → IsBlock 0 b
  more_formed no_processes ts rest h = refl
  more_formed (process p b) ts rest h = (process_formed p h.0 h.2.0 h.2.1, more_formed b h.2.0 rest h.2.2)

  states_formed : (ss : StateForms) (ts rest : List Token) → grammar.states ss ts rest → AreStates 1 ss
  states_formed no_states ts rest h = absurd h
  states_formed (state h b ss) ts rest k = let one = k.1 in (head_formed h (grammar.body b) ts k.0 one, body_formed b one.2.0 one.2.2.0 one.2.2.1, more_states_formed ss k.0 rest k.2)

  more_states_formed : (ss : StateForms) (ts rest : List Token) → grammar.more_states ss ts rest → AreStates 0 ss
  more_states_formed no_states ts rest h = refl
  more_states_formed (state h b ss) ts rest k = let one = k.1 in (head_formed h (grammar.body b) ts k.0 one, body_formed b one.2.0 one.2.2.0 one.2.2.1, more_states_formed ss k.0 rest k.2)

  body_formed : (b : BodyForm) (ts rest : List Token) → grammar.body b ts rest → IsBody b
  body_formed plain ts rest h = tt
  body_formed (refined b) ts rest h = block_formed b h.2.0 h.2.2.0 h.2.2.1

-- components, programs and aspects
component_formed : (c : ComponentForm) (ts rest : List Token) → grammar.component c ts rest → IsComponent c
component_formed c ts rest h =
    let k = h.2.2 in
    let faces = k.1 in (
      name_formed c.name h.0 h.2.0 h.2.1,
      listed_formed c.inputs h.2.0 faces.0 faces.1,
      listed_formed c.outputs faces.2.0 k.0 faces.2.2,
      block_formed c.block k.2.0 k.2.2.0 k.2.2.1,
    )

components_formed : (cs : List ComponentForm) (ts rest : List Token) → grammar.components cs ts rest → HasSome cs × AllByRecursion IsComponent cs
components_formed [] ts rest h = absurd h
components_formed (c ∷ cs) ts rest h = (tt, (component_formed c ts h.0 h.1, each_formed grammar.component IsComponent component_formed cs h.0 rest h.2))

pub program_formed : (p : ProgramForm) (ts rest : List Token) → grammar.program p ts rest → IsProgramForm p
program_formed p ts rest h = let c = components_formed p.components h.2.2.0 rest h.2.2.2 in (h.2.1.0, c.0, c.1)

set_formed : (ns : List Mark) (ts rest : List Token) → grammar.set ns ts rest → AreMarks ns
set_formed ns ts rest h = some_names_formed ns h.0 h.2.0 h.2.1

trace_formed : (ss : List (List Mark)) (ts rest : List Token) → grammar.trace ss ts rest → AllByRecursion AreMarks ss
trace_formed ss ts rest h = optional_formed grammar.sets AreMarks (λ xs us vs k. (separated_formed "," grammar.set AreMarks set_formed xs us vs k).1) ss h.0 h.2.0 h.2.1

pub aspect_formed : (a : AspectForm) (ts rest : List Token) → grammar.aspect a ts rest → IsAspectForm a
aspect_formed a ts rest h =
    let o = h.1 in
    let c = components_formed a.components o.2.2.0 h.0 o.2.2.2 in
    let advice = h.2.1 in
    (o.2.1.0, c.0, c.1, emitted_formed a.outs advice.0 advice.2.0 advice.2.1, trace_formed a.trace h.2.0 rest h.2.2)

-- certificates
elapsed_formed : (e : Option Numeral) (ts rest : List Token) → grammar.elapsed e ts rest → IfSome e (λ n. IsNumber n.number)
elapsed_formed None ts rest h = tt
elapsed_formed (Some e) ts rest h = numeral_formed e h.0 rest h.2

atom_formed : (a : Atom) (ts rest : List Token) → grammar.one_atom a ts rest → IsAtom a
atom_formed (in_state left r s e) ts rest h = let k = h.2.2 in (numeral_formed r h.0 h.2.0 h.2.1, name_formed s k.0 k.2.0 k.2.1, elapsed_formed e k.2.0 rest k.2.2)
atom_formed (inactive left r) ts rest h = numeral_formed r h.0 h.2.0 h.2.1
atom_formed (same_code l r) ts rest h = (numeral_formed l h.0 h.2.0 h.2.1, numeral_formed r h.2.0 rest h.2.2)

pub cert_formed : (c : CertForm) (ts rest : List Token) → grammar.cert c ts rest → IsCertForm c
cert_formed c ts rest h = let k = h.2.2.2 in (h.2.1.0, condition_formed IsAtom atom_formed k.2.1)

-- texts
pub text_formed : (bs : List ℕ) (p : ProgramForm) → IsText bs p → IsProgramForm p
text_formed bs p h = program_formed p h.0 [] h.4

pub aspect_text_formed : (bs : List ℕ) (a : AspectForm) → IsAspectText bs a → IsAspectForm a
aspect_text_formed bs a h = aspect_formed a h.0 [] h.4

pub cert_text_formed : (bs : List ℕ) (c : CertForm) → IsCertText bs c → IsCertForm c
cert_text_formed bs c h = cert_formed c h.0 [] h.4
