-- What is written, piece by piece.
use Rattle.std.proofs.Common.{◌≡◌, ℕ, suc, ◌+◌, ◌<◌, List, [], ◌∷◌, ◌++◌, IsTrue, Global, length, map, take, get_or, refl, sym, ap, ◌∙◌, append_assoc}
use Rattle.std.specs.Prelude.{codes}
use Rattle.std.specs.List.{list_all}
use Rattle.std.proofs.lemmas.List.{append-nil, take_more, map-append}
use Rattle.smallvec.specs.declared.small_vec.SmallVec.{SmallVec}
use Rattle.std.proofs.lemmas.List.Folds.{list_all-append}
use Rattle.argos_base.proofs.Bools.{and_both}
use Rattle.argos_base.specs.Names.{Spelled, AreDistinct, IsTable}
use Rattle.argos_base.specs.Spelling.{is_name}
use Rattle.eqn_core.specs.Equations.{Choice, Equations}
use Rattle.eqn_core.specs.Equations as plain
use Rattle.eqn_core.specs.Ordered.{IsOrdered}
use Rattle.eqn_core.specs.Views.{literal_of, choice_of, case_of, line_of}
use Rattle.eqn_core.specs.declared.system.Lit.{Lit}
use Rattle.eqn_core.specs.declared.system.Pick.{Pick}
use Rattle.eqn_core.specs.declared.system.Case.{Case}
use Rattle.eqn_core.specs.declared.system.Line.{Line}
use Rattle.eqn_core.specs.declared.system.Line.TheVariants.{All, Any, Choose}
use Rattle.line_format.specs.FileNames.{FileNames}
use Rattle.line_format.specs.Numerals.{numeral}
use Rattle.line_format.specs.Lines.{lines_then}
use Rattle.eqn_file.specs.EquationFile.{spaced, FileLine, input_name, output_count, output_name, register_count, a_code, line_count, a_line, an_out, a_next, the_end, literal_text, choice_words, chain_words, line_words, equation_format, file_text, IsEquationText}
use Rattle.eqn_file.specs.inner.Words.{behind_spaces}
use Rattle.eqn_file.specs.inner.Texts.{keyed_line, lines_text, places_text, line_text, case_text, cases_text}

-- the first word, and the others behind spaces
pub spaced-first : (w : Spelled) (ws : List Spelled) → spaced (w ∷ ws) ≡ w ++ behind_spaces ws
spaced-first w [] = sym (append-nil w)
spaced-first w (v ∷ ws) = ap (λ z. w ++ 32 ∷ z) (spaced-first v ws)

pub behind_spaces-append : (xs ys : List Spelled) → behind_spaces (xs ++ ys) ≡ behind_spaces xs ++ behind_spaces ys
behind_spaces-append [] ys = refl
behind_spaces-append (x ∷ xs) ys = ap (λ z. 32 ∷ x ++ z) (behind_spaces-append xs ys) ∙ ap (λ z. 32 ∷ z) (sym (append_assoc x (behind_spaces xs) (behind_spaces ys)))

pub lines_text-append : (xs ys : List Spelled) → lines_text (xs ++ ys) ≡ lines_text xs ++ lines_text ys
lines_text-append [] ys = refl
lines_text-append (x ∷ xs) ys = ap (λ z. x ++ 10 ∷ z) (lines_text-append xs ys) ∙ sym (append_assoc x (10 ∷ lines_text xs) (lines_text ys))

pub places_text-append : (w : Spelled) (xs ys : List ℕ) → places_text w (xs ++ ys) ≡ places_text w xs ++ places_text w ys
places_text-append w [] ys = refl
places_text-append w (x ∷ xs) ys = ap (λ z. keyed_line w x ++ z) (places_text-append w xs ys) ∙ sym (append_assoc (keyed_line w x) (places_text w xs) (places_text w ys))

pub cases_text-append : (xs ys : List Case) → cases_text (xs ++ ys) ≡ cases_text xs ++ cases_text ys
cases_text-append [] ys = refl
cases_text-append (x ∷ xs) ys = ap (λ z. case_text x ++ z) (cases_text-append xs ys) ∙ sym (append_assoc (case_text x) (cases_text xs) (cases_text ys))

-- one more piece, where the text of a list is that of its parts
flat_push : {A : Type 0} (T : List A → List ℕ) → ((xs ys : List A) → T (xs ++ ys) ≡ T xs ++ T ys) → (start old new piece : List ℕ) (xs : List A) (i : ℕ) (d : A) → i < length xs → T (get_or xs i d ∷ []) ≡ piece
    → old ≡ start ++ T (take i xs) → new ≡ old ++ piece → new ≡ start ++ T (take (i + 1) xs)
flat_push T T-append start old new piece xs i d l f h k =
    k ∙ ap (λ z. z ++ piece) h ∙ ap (λ z. (start ++ T (take i xs)) ++ z) (sym f) ∙ append_assoc start (T (take i xs)) (T (get_or xs i d ∷ []))
    ∙ ap (λ z. start ++ z) (sym (T-append (take i xs) (get_or xs i d ∷ []))) ∙ ap (λ z. start ++ T z) (sym (take_more xs i d l))

map-map : {A B C : Type 0} (f : B → C) (g : A → B) (xs : List A) → map f (map g xs) ≡ map (λ x. f (g x)) xs
map-map f g [] = refl
map-map f g (x ∷ xs) = ap (λ z. f (g x) ∷ z) (map-map f g xs)

abbrev pub literals_text : List Lit → List ℕ
literals_text xs = behind_spaces (map (λ x. literal_text (literal_of x)) xs)

literals_text-append : (xs ys : List Lit) → literals_text (xs ++ ys) ≡ literals_text xs ++ literals_text ys
literals_text-append xs ys = ap behind_spaces (map-append (λ x. literal_text (literal_of x)) xs ys) ∙ behind_spaces-append (map (λ x. literal_text (literal_of x)) xs) (map (λ x. literal_text (literal_of x)) ys)

pub literals_push : (start old new : List ℕ) (xs : List Lit) (i : ℕ) (d : Lit) → i < length xs → old ≡ start ++ literals_text (take i xs) → new ≡ old ++ 32 ∷ literal_text (literal_of (get_or xs i d)) → new ≡ start ++ literals_text (take (i + 1) xs)
literals_push start old new xs i d l h k =
    flat_push literals_text literals_text-append start old new (32 ∷ literal_text (literal_of (get_or xs i d))) xs i d l (ap (λ z. 32 ∷ z) (append-nil (literal_text (literal_of (get_or xs i d))))) h k

pub cases_push : (start old a b new : List ℕ) (xs : List Case) (i : ℕ) (d : Case) → i < length xs → old ≡ start ++ cases_text (take i xs) → a ≡ old ++ codes " when" → b ≡ a ++ 32 ∷ literal_text (literal_of (get_or xs i d).when)
    → new ≡ b ++ behind_spaces (choice_words (choice_of (get_or xs i d).pick)) → new ≡ start ++ cases_text (take (i + 1) xs)
cases_push start old a b new xs i d l h e f g =
    let lit : List ℕ = 32 ∷ literal_text (literal_of (get_or xs i d).when) in
    let pick : List ℕ = behind_spaces (choice_words (choice_of (get_or xs i d).pick)) in
    let all : new ≡ old ++ ((codes " when" ++ lit) ++ pick) =
    g ∙ ap (λ z. z ++ pick) (f ∙ ap (λ z. z ++ lit) e ∙ append_assoc old (codes " when") lit) ∙ append_assoc old (codes " when" ++ lit) pick in
    flat_push cases_text cases_text-append start old new (case_text (get_or xs i d)) xs i d l (append-nil (case_text (get_or xs i d))) h all

pub places_push : (w : Spelled) (start old new : List ℕ) (xs : List ℕ) (i : ℕ) → i < length xs → old ≡ start ++ places_text w (take i xs) → new ≡ old ++ keyed_line w (get_or xs i 0) → new ≡ start ++ places_text w (take (i + 1) xs)
places_push w start old new xs i l h k = flat_push (places_text w) (places_text-append w) start old new (keyed_line w (get_or xs i 0)) xs i 0 l (append-nil (keyed_line w (get_or xs i 0))) h k

-- a line and its LF
with_end : (old a new piece : List ℕ) → a ≡ old ++ piece → new ≡ a ++ 10 ∷ [] → new ≡ old ++ (piece ++ 10 ∷ [])
with_end old a new piece e f = f ∙ ap (λ z. z ++ 10 ∷ []) e ∙ append_assoc old piece (10 ∷ [])

pub names_push : (start old new : List ℕ) (xs : List Spelled) (i : ℕ) → i < length xs → old ≡ start ++ lines_text (take i xs) → new ≡ old ++ (get_or xs i [] ++ 10 ∷ []) → new ≡ start ++ lines_text (take (i + 1) xs)
names_push start old new xs i l h k = flat_push lines_text lines_text-append start old new (get_or xs i [] ++ 10 ∷ []) xs i [] l refl h k

pub codes_push : (start old a new : List ℕ) (xs : List ℕ) (i : ℕ) → i < length xs → old ≡ start ++ lines_text (map numeral (take i xs)) → a ≡ old ++ numeral (get_or xs i 0) → new ≡ a ++ 10 ∷ [] → new ≡ start ++ lines_text (map numeral (take (i + 1) xs))
codes_push start old a new xs i l h e f =
    flat_push (λ ys. lines_text (map numeral ys)) (λ ys zs. ap lines_text (map-append numeral ys zs) ∙ lines_text-append (map numeral ys) (map numeral zs)) start old new (numeral (get_or xs i 0) ++ 10 ∷ []) xs i 0 l refl h (with_end old a new (numeral (get_or xs i 0)) e f)

pub lines_push : (start old a new : List ℕ) (xs : List Line) (i : ℕ) (x : Line) → i < length xs → x ≡ get_or xs i x → old ≡ start ++ lines_text (map line_text (take i xs)) → a ≡ old ++ line_text x → new ≡ a ++ 10 ∷ [] → new ≡ start ++ lines_text (map line_text (take (i + 1) xs))
lines_push start old a new xs i x l same h e f =
    flat_push (λ ys. lines_text (map line_text ys)) (λ ys zs. ap lines_text (map-append line_text ys zs) ∙ lines_text-append (map line_text ys) (map line_text zs)) start old new (line_text (get_or xs i x) ++ 10 ∷ []) xs i x l refl h
    (with_end old a new (line_text (get_or xs i x)) (e ∙ ap (λ z. old ++ line_text z) same) f)

-- lines by their first words
pub all_text : (old mid new : List ℕ) (line : Line) (v : SmallVec Lit 4 Global) (xs : List Lit) → line ≡ All v → xs ≡ v.items → mid ≡ old ++ codes "all" → new ≡ mid ++ literals_text xs → new ≡ old ++ line_text line
all_text old mid new line v xs is e f g =
    g ∙ ap (λ z. z ++ literals_text xs) f ∙ append_assoc old (codes "all") (literals_text xs) ∙ ap (λ z. old ++ (codes "all" ++ literals_text z)) e
    ∙ ap (λ z. old ++ (codes "all" ++ behind_spaces z)) (sym (map-map literal_text literal_of v.items)) ∙ ap (λ z. old ++ z) (sym (spaced-first (codes "all") (map literal_text (map literal_of v.items)))) ∙ ap (λ z. old ++ line_text z) (sym is)

pub any_text : (old mid new : List ℕ) (line : Line) (v : SmallVec Lit 4 Global) (xs : List Lit) → line ≡ Any v → xs ≡ v.items → mid ≡ old ++ codes "any" → new ≡ mid ++ literals_text xs → new ≡ old ++ line_text line
any_text old mid new line v xs is e f g =
    g ∙ ap (λ z. z ++ literals_text xs) f ∙ append_assoc old (codes "any") (literals_text xs) ∙ ap (λ z. old ++ (codes "any" ++ literals_text z)) e
    ∙ ap (λ z. old ++ (codes "any" ++ behind_spaces z)) (sym (map-map literal_text literal_of v.items)) ∙ ap (λ z. old ++ z) (sym (spaced-first (codes "any") (map literal_text (map literal_of v.items)))) ∙ ap (λ z. old ++ line_text z) (sym is)

chain_text : (xs : List Case) (other : Choice) → cases_text xs ++ (codes " else" ++ behind_spaces (choice_words other)) ≡ behind_spaces (chain_words (map case_of xs) other)
chain_text [] other = refl
chain_text (x ∷ xs) other =
    let lit : List ℕ = 32 ∷ literal_text (literal_of x.when) in
    let pick : List ℕ = behind_spaces (choice_words (choice_of x.pick)) in
    let tail : List ℕ = codes " else" ++ behind_spaces (choice_words other) in
    append_assoc (case_text x) (cases_text xs) tail ∙ append_assoc (codes " when" ++ lit) pick (cases_text xs ++ tail) ∙ append_assoc (codes " when") lit (pick ++ (cases_text xs ++ tail))
    ∙ ap (λ z. codes " when" ++ (lit ++ (pick ++ z))) (chain_text xs other)
    ∙ ap (λ z. codes " when" ++ (lit ++ z)) (sym (behind_spaces-append (choice_words (choice_of x.pick)) (chain_words (map case_of xs) other)))

pub choose_text : (old a b c new : List ℕ) (line : Line) (v : SmallVec Case 4 Global) (other : Pick) (xs : List Case) → line ≡ Choose v other → xs ≡ v.items → a ≡ old ++ codes "choose" → b ≡ a ++ cases_text xs → c ≡ b ++ codes " else" → new ≡ c ++ behind_spaces (choice_words (choice_of other))
    → new ≡ old ++ line_text line
choose_text old a b c new line v other xs is e f g h k =
    let pick : List ℕ = behind_spaces (choice_words (choice_of other)) in
    let tail : List ℕ = codes " else" ++ pick in
    k ∙ ap (λ z. z ++ pick) (h ∙ ap (λ z. z ++ codes " else") (g ∙ ap (λ z. z ++ cases_text xs) f ∙ append_assoc old (codes "choose") (cases_text xs)) ∙ append_assoc old (codes "choose" ++ cases_text xs) (codes " else"))
    ∙ append_assoc old ((codes "choose" ++ cases_text xs) ++ codes " else") pick
    ∙ ap (λ z. old ++ z) (append_assoc (codes "choose" ++ cases_text xs) (codes " else") pick ∙ append_assoc (codes "choose") (cases_text xs) tail ∙ ap (λ z. codes "choose" ++ z) (chain_text xs (choice_of other)) ∙ ap (λ z. codes "choose" ++ behind_spaces (chain_words (map case_of z) (choice_of other))) e)
    ∙ ap (λ z. old ++ z) (sym (spaced-first (codes "choose") (chain_words (map case_of v.items) (choice_of other)))) ∙ ap (λ z. old ++ line_text z) (sym is)

-- the whole
named_lines : {A : Type 0} (say : A → FileLine) (text : A → List ℕ) → ((x : A) → equation_format.spelled (say x) ≡ text x) → (xs : List A) (rest : List FileLine) → lines_then equation_format (map say xs ++ rest) [] ≡ lines_text (map text xs) ++ lines_then equation_format rest []
named_lines say text is [] rest = refl
named_lines say text is (x ∷ xs) rest =
    ap (λ z. z ++ 10 ∷ lines_then equation_format (map say xs ++ rest) []) (is x) ∙ ap (λ z. text x ++ 10 ∷ z) (named_lines say text is xs rest)
    ∙ sym (append_assoc (text x) (10 ∷ lines_text (map text xs)) (lines_then equation_format rest []))

map-same : {A : Type 0} (xs : List A) → map (λ x. x) xs ≡ xs
map-same [] = refl
map-same (x ∷ xs) = ap (λ z. x ∷ z) (map-same xs)

counted : (w : Spelled) (n : ℕ) (rest : List ℕ) → (w ++ 32 ∷ numeral n) ++ 10 ∷ rest ≡ keyed_line w n ++ rest
counted w n rest =
    append_assoc w (32 ∷ numeral n) (10 ∷ rest) ∙ ap (λ z. w ++ 32 ∷ z) (sym (append_assoc (numeral n) (10 ∷ []) rest)) ∙ sym (append_assoc w (32 ∷ (numeral n ++ 10 ∷ [])) rest)

placed_lines : (say : ℕ → FileLine) (w : Spelled) → ((x : ℕ) → equation_format.spelled (say x) ≡ w ++ 32 ∷ numeral x) → (xs : List ℕ) (rest : List FileLine) → lines_then equation_format (map say xs ++ rest) [] ≡ places_text w xs ++ lines_then equation_format rest []
placed_lines say w is [] rest = refl
placed_lines say w is (x ∷ xs) rest =
    ap (λ z. z ++ 10 ∷ lines_then equation_format (map say xs ++ rest) []) (is x) ∙ counted w x (lines_then equation_format (map say xs ++ rest) [])
    ∙ ap (λ z. keyed_line w x ++ z) (placed_lines say w is xs rest) ∙ sym (append_assoc (keyed_line w x) (places_text w xs) (lines_then equation_format rest []))

-- a count, and then as many lines
part : (w : Spelled) (n : ℕ) (text rest all : List ℕ) → all ≡ text ++ rest → (w ++ 32 ∷ numeral n) ++ 10 ∷ all ≡ (keyed_line w n ++ text) ++ rest
part w n text rest all e = ap (λ z. (w ++ 32 ∷ numeral n) ++ 10 ∷ z) e ∙ counted w n (text ++ rest) ∙ sym (append_assoc (keyed_line w n) text rest)

joined : (a p q r s t u z b c d e f g h : List ℕ) → b ≡ a ++ p → c ≡ b ++ q → d ≡ c ++ r → e ≡ d ++ s → f ≡ e ++ t → g ≡ f ++ u → h ≡ g ++ z → h ≡ a ++ (p ++ (q ++ (r ++ (s ++ (t ++ (u ++ z))))))
joined a p q r s t u z b c d e f g h i j k l m n o =
    o ∙ ap (λ y. y ++ z) n ∙ append_assoc f u z ∙ ap (λ y. y ++ (u ++ z)) m ∙ append_assoc e t (u ++ z) ∙ ap (λ y. y ++ (t ++ (u ++ z))) l ∙ append_assoc d s (t ++ (u ++ z))
    ∙ ap (λ y. y ++ (s ++ (t ++ (u ++ z)))) k ∙ append_assoc c r (s ++ (t ++ (u ++ z))) ∙ ap (λ y. y ++ (r ++ (s ++ (t ++ (u ++ z))))) j ∙ append_assoc b q (r ++ (s ++ (t ++ (u ++ z))))
    ∙ ap (λ y. y ++ (q ++ (r ++ (s ++ (t ++ (u ++ z)))))) i ∙ append_assoc a p (q ++ (r ++ (s ++ (t ++ (u ++ z)))))

sized : (ls : List Line) → length (map line_of ls) ≡ length ls
sized [] = refl
sized (l ∷ ls) = ap suc (sized ls)

pub whole_text : (E : Equations) (n : FileNames) (ls : List Line) (a b c d e f g h : List ℕ) → E.lines ≡ map line_of ls → a ≡ codes "argos-eq 1\n"
    → b ≡ a ++ (keyed_line (codes "inputs") (length n.inputs) ++ lines_text n.inputs) → c ≡ b ++ (keyed_line (codes "outputs") (length n.outputs) ++ lines_text n.outputs)
    → d ≡ c ++ (keyed_line (codes "registers") (length E.initial) ++ lines_text (map numeral E.initial)) → e ≡ d ++ (keyed_line (codes "lines") (length ls) ++ lines_text (map line_text ls))
    → f ≡ e ++ places_text (codes "out") E.outputs → g ≡ f ++ places_text (codes "next") E.next → h ≡ g ++ codes "end\n" → h ≡ file_text E n
whole_text E n ls a b c d e f g h same i j k l m o p q =
    let P1 : List ℕ = keyed_line (codes "inputs") (length n.inputs) ++ lines_text n.inputs in
    let P2 : List ℕ = keyed_line (codes "outputs") (length n.outputs) ++ lines_text n.outputs in
    let P3 : List ℕ = keyed_line (codes "registers") (length E.initial) ++ lines_text (map numeral E.initial) in
    let P4 : List ℕ = keyed_line (codes "lines") (length ls) ++ lines_text (map line_text ls) in
    let P5 : List ℕ = places_text (codes "out") E.outputs in
    let P6 : List ℕ = places_text (codes "next") E.next in
    let T6 : List FileLine = the_end ∷ [] in
    let T5 : List FileLine = map a_next E.next ++ T6 in
    let T4 : List FileLine = map an_out E.outputs ++ T5 in
    let T3 : List FileLine = line_count (length E.lines) ∷ map a_line E.lines ++ T4 in
    let T2 : List FileLine = register_count (length E.initial) ∷ map a_code E.initial ++ T3 in
    let T1 : List FileLine = output_count (length n.outputs) ∷ map output_name n.outputs ++ T2 in
    let e6 : lines_then equation_format T5 [] ≡ P6 ++ codes "end\n" = placed_lines a_next (codes "next") (λ x. refl) E.next T6 in
    let e5 : lines_then equation_format T4 [] ≡ P5 ++ (P6 ++ codes "end\n") = placed_lines an_out (codes "out") (λ x. refl) E.outputs T5 ∙ ap (λ y. P5 ++ y) e6 in
    let e4 : lines_then equation_format T3 [] ≡ P4 ++ (P5 ++ (P6 ++ codes "end\n")) = lines_part E.lines ls T4 same ∙ ap (λ y. P4 ++ y) e5 in
    let e3 : lines_then equation_format T2 [] ≡ P3 ++ (P4 ++ (P5 ++ (P6 ++ codes "end\n"))) =
    part (codes "registers") (length E.initial) (lines_text (map numeral E.initial)) (lines_then equation_format T3 []) (lines_then equation_format (map a_code E.initial ++ T3) []) (named_lines a_code numeral (λ x. refl) E.initial T3) ∙ ap (λ y. P3 ++ y) e4 in
    let e2 : lines_then equation_format T1 [] ≡ P2 ++ (P3 ++ (P4 ++ (P5 ++ (P6 ++ codes "end\n")))) =
    part (codes "outputs") (length n.outputs) (lines_text n.outputs) (lines_then equation_format T2 []) (lines_then equation_format (map output_name n.outputs ++ T2) []) (names_part output_name (λ x. refl) n.outputs T2) ∙ ap (λ y. P2 ++ y) e3 in
    let e1 : file_text E n ≡ codes "argos-eq 1\n" ++ (P1 ++ (P2 ++ (P3 ++ (P4 ++ (P5 ++ (P6 ++ codes "end\n")))))) =
    ap (λ y. codes "argos-eq 1\n" ++ y) (part (codes "inputs") (length n.inputs) (lines_text n.inputs) (lines_then equation_format T1 []) (lines_then equation_format (map input_name n.inputs ++ T1) []) (names_part input_name (λ x. refl) n.inputs T1) ∙ ap (λ y. P1 ++ y) e2) in
    joined a P1 P2 P3 P4 P5 P6 (codes "end\n") b c d e f g h j k l m o p q ∙ ap (λ y. y ++ (P1 ++ (P2 ++ (P3 ++ (P4 ++ (P5 ++ (P6 ++ codes "end\n"))))))) i ∙ sym e1
  where
    names_part : (say : Spelled → FileLine) → ((x : Spelled) → equation_format.spelled (say x) ≡ x) → (xs : List Spelled) (rest : List FileLine) → lines_then equation_format (map say xs ++ rest) [] ≡ lines_text xs ++ lines_then equation_format rest []
    names_part say is xs rest = named_lines say (λ x. x) is xs rest ∙ ap (λ y. lines_text y ++ lines_then equation_format rest []) (map-same xs)

    lines_part : (es : List plain.Line) (ls : List Line) (rest : List FileLine) → es ≡ map line_of ls
        → lines_then equation_format (line_count (length es) ∷ map a_line es ++ rest) [] ≡ (keyed_line (codes "lines") (length ls) ++ lines_text (map line_text ls)) ++ lines_then equation_format rest []
    lines_part es ls rest same =
        part (codes "lines") (length es) (lines_text (map (λ l. spaced (line_words l)) es)) (lines_then equation_format rest []) (lines_then equation_format (map a_line es ++ rest) []) (named_lines a_line (λ l. spaced (line_words l)) (λ x. refl) es rest)
        ∙ ap (λ k. (keyed_line (codes "lines") k ++ lines_text (map (λ l. spaced (line_words l)) es)) ++ lines_then equation_format rest []) (ap length same ∙ sized ls)
        ∙ ap (λ y. (keyed_line (codes "lines") (length ls) ++ lines_text y) ++ lines_then equation_format rest []) (ap (map (λ l. spaced (line_words l))) same ∙ map-map (λ l. spaced (line_words l)) line_of ls)

-- names of two tables
pub all_names : (ins outs : List Spelled) → IsTable ins → IsTable outs → IsTrue (list_all is_name (ins ++ outs))
all_names ins outs h k = list_all-append is_name ins outs ∙ and_both _ _ h.spelled k.spelled

-- the text of a system is one of it
pub spelled_text : (E G : Equations) (n : FileNames) (t : List ℕ) → IsOrdered G → E ≡ G → IsTrue (list_all is_name (n.inputs ++ n.outputs)) → AreDistinct (n.inputs ++ n.outputs) → length n.inputs ≡ G.inputs → length n.outputs ≡ length G.outputs → t ≡ file_text E n → IsEquationText t G n
spelled_text E G n t o same spelled distinct ins outs e = record { ordered = o; names = record { inputs = ins; outputs = outs; spelled = spelled; distinct = distinct }; text = e ∙ ap (λ (z : Equations). file_text z n) same }
