-- Lists that are moved one by one.
use Rattle.std.specs.List.{list_all}
use Rattle.std.proofs.Common.{◌≡◌, ℕ, zero, suc, ◌+◌, ◌*◌, ◌<◌, ◌≤◌, List, [], ◌∷◌, ◌&&◌, ◌++◌, append_assoc, IsTrue, nat_lt, nat_le, map, length, get_or, drop, refl, sym, ap, ◌∙◌, subst, arith}
use Rattle.std.proofs.lemmas.Grind.{common_steps}
use Rattle.std.proofs.lemmas.Bool.Decides.{nat_tests}
use Rattle.std.proofs.Math.Nat.{suc-mul}
use Rattle.std.proofs.lemmas.List.{length-map, at_drop_more}
use Rattle.std.proofs.lemmas.List.Folds.{list_all-map}
use Rattle.std.proofs.lemmas.List.Sums.{AllPass-from_list_all}
use Rattle.argos_base.specs.SignalSets.{SignalSet}
use Rattle.argos_base.proofs.Bools.{and_first, and_second, and_both}
use Rattle.argos_aspects.specs.Aspects.{IsBelow, AreBelow, AreSized}
use Rattle.argos_aspects.specs.Aspects as plain_aspects
use Rattle.argos_aspects.specs.Views.{seen_of}
use Rattle.argos_aspects.specs.declared.aspect.Seen.{Seen}
use Rattle.eqn_core.specs.Equations.{Literal, Choice, code, word, next, all, any, within, digit, choose, bits_of_line, words_of_line, bit_lines, word_lines, Equations, registers, bit_count, word_count}
use Rattle.eqn_core.specs.Equations as plain
use Rattle.eqn_core.specs.declared.system.Case.{Case}
use Rattle.eqn_core.specs.declared.system.Line.{Line}
use Rattle.eqn_core.specs.declared.system.System.{System}
use Rattle.eqn_core.specs.Ordered.{literal_below, choice_below, case_below, line_below, all_below, all_between, IsOrdered}
use Rattle.eqn_core.specs.inner.OrderTest.{lines_in_order}
use Rattle.eqn_core.specs.Views.{case_of, line_of, equations_from}
use Rattle.eqn_core.proofs.InOrder.{IsOrdered-walk}
use Rattle.eqn_core.proofs.Walks.{All-literals, bit_and_word_lines}
use Rattle.weave_lines.specs.inner.Views.{words_of}
use Rattle.weave_lines.specs.WovenLines.{placed, bit_seen, copied, seen_bits, together, Words, constants, moved_on, bits_together, words_together, along, behind}
use Rattle.weave_lines.specs.declared.together.Memories.{Memories}

-- what reads numbers below b and w reads numbers below greater ones
module _ (b w B V : ℕ) (le : b ≤ B) (lw : w ≤ V) where
  lt_more : (k n m : ℕ) → n ≤ m → IsTrue (nat_lt k n) → IsTrue (nat_lt k m)
  lt_more k n m h e = grind (arith, nat_tests)

  literals_more : (ls : List Literal) → IsTrue (list_all (literal_below b) ls) → IsTrue (list_all (literal_below B) ls)
  literals_more [] h = refl
  literals_more (l ∷ ls) h = and_both _ _ (lt_more l.bit b B le (and_first _ _ h)) (literals_more ls (and_second (literal_below b l) _ h))

  choice_more : (c : Choice) → IsTrue (choice_below w c) → IsTrue (choice_below V c)
  choice_more (code n) h = h
  choice_more (word k) h = lt_more k w V lw h
  choice_more (next k) h = lt_more k w V lw h

  cases_more : (cs : List plain.Case) → IsTrue (list_all (case_below b w) cs) → IsTrue (list_all (case_below B V) cs)
  cases_more [] h = refl
  cases_more (c ∷ cs) h =
      let first : IsTrue (case_below b w c) = and_first _ _ h in
      and_both _ _ (and_both _ _ (lt_more c.when.bit b B le (and_first _ _ first)) (choice_more c.choice (and_second (literal_below b c.when) _ first))) (cases_more cs (and_second (case_below b w c) _ h))

  pub line_more : (l : plain.Line) → IsTrue (line_below b w l) → IsTrue (line_below B V l)
  line_more (all ls) h = literals_more ls h
  line_more (any ls) h = literals_more ls h
  line_more (within k lo hi) h = and_both _ _ (lt_more k w V lw (and_first _ _ h)) (and_second (nat_lt k w) _ h)
  line_more (digit k d) h = and_both _ _ (lt_more k w V lw (and_first _ _ h)) (and_second (nat_lt k w) _ h)
  line_more (choose cases other) h = and_both _ _ (cases_more cases (and_first _ _ h)) (choice_more other (and_second (list_all (case_below b w) cases) _ h))

-- each line of an ordered system reads numbers that exist
pub lines_exist : (ls : List plain.Line) (b w B V : ℕ) → b + bit_lines ls ≤ B → w + word_lines ls ≤ V → IsTrue (lines_in_order b w ls) → IsTrue (list_all (line_below B V) ls)
lines_exist [] b w B V hb hw h = refl
lines_exist (l ∷ ls) b w B V hb hw h = and_both _ _ (line_more b w B V (omega arith) (omega arith) l (and_first _ _ h)) (lines_exist ls (b + bits_of_line l) (w + words_of_line l) B V (omega arith) (omega arith) (and_second (line_below b w l) _ h))

-- one of the cases, and one of the lines
pub case-room : (n m : ℕ) (cs : List Case) (k : ℕ) (d : Case) → k < length cs → IsTrue (list_all (case_below n m) (map case_of cs)) → IsTrue (case_below n m (case_of (get_or cs k d)))
case-room n m cs k d l h = AllPass-from_list_all (λ z. case_below n m (case_of z)) cs (sym (list_all-map (case_below n m) case_of cs) ∙ h) k d l

pub line-room : (s : System) (k : ℕ) (d : Line) (B V : ℕ) → k < length s.lines.items → IsOrdered (equations_from s) → s.inputs + bit_lines (map line_of s.lines.items) ≤ B → length s.init.items + word_lines (map line_of s.lines.items) ≤ V → IsTrue (line_below B V (line_of (get_or s.lines.items k d)))
line-room s k d B V l h hb hw =
    let all_exist = lines_exist (map line_of s.lines.items) s.inputs (length s.init.items) B V hb hw (IsOrdered-walk (equations_from s) h) in
    AllPass-from_list_all (λ z. line_below B V (line_of z)) s.lines.items (sym (list_all-map (line_below B V) line_of s.lines.items) ∙ all_exist) k d l

pub number-room : (n : ℕ) (ks : List ℕ) (k d : ℕ) → k < length ks → IsTrue (all_below n ks) → get_or ks k d < n
number-room n ks k d l h = let here : IsTrue (nat_lt (get_or ks k d) n) = AllPass-from_list_all (λ z. nat_lt z n) ks h k d l in grind (arith, nat_tests)

below_more : (n m : ℕ) (ks : List ℕ) → n ≤ m → IsTrue (all_below n ks) → IsTrue (all_below m ks)
below_more n m [] le h = refl
below_more n m (k ∷ ks) le h = and_both _ _ (lt_more n 0 m 0 le (omega arith) k n m le (and_first _ _ h)) (below_more n m ks le (and_second (nat_lt k n) _ h))

below-between : (lo n : ℕ) (ks : List ℕ) → IsTrue (all_between lo n ks) → IsTrue (all_below n ks)
below-between lo n [] h = refl
below-between lo n (k ∷ ks) h = and_both _ _ (and_second (nat_le lo k) _ (and_first _ _ h)) (below-between lo n ks (and_second (nat_le lo k && nat_lt k n) _ h))

-- outputs and next words exist
pub outputs-room : (s : System) (n : ℕ) (ks : List ℕ) → ks ≡ s.outs.items → IsOrdered (equations_from s) → s.inputs + bit_lines (map line_of s.lines.items) ≤ n → IsTrue (all_below n ks)
outputs-room s n ks e h le = below_more (bit_count (equations_from s)) n ks le (subst (λ (l : List ℕ). IsTrue (all_below (bit_count (equations_from s)) l)) (sym e) h.outputs_exist)

pub next-room : (s : System) (n : ℕ) (ks : List ℕ) → ks ≡ s.next.items → IsOrdered (equations_from s) → length s.init.items + word_lines (map line_of s.lines.items) ≤ n → IsTrue (all_below n ks)
next-room s n ks e h le = below_more (word_count (equations_from s)) n ks le (subst (λ (l : List ℕ). IsTrue (all_below (word_count (equations_from s)) l)) (sym e) (below-between (registers (equations_from s)) (word_count (equations_from s)) s.next.items h.next_exist))

pub seen-room : (inputs outputs : ℕ) (seen : List Seen) (k : ℕ) (d : Seen) → k < length seen → AreBelow inputs outputs (map seen_of seen) → IsBelow inputs outputs (seen_of (get_or seen k d))
seen-room inputs outputs [] k d l h = absurd (omega arith)
seen-room inputs outputs (x ∷ seen) zero d l h = h.0
seen-room inputs outputs (x ∷ seen) (suc k) d l h = seen-room inputs outputs seen k d (omega arith) h.1

pub first-room : (s : System) (n : ℕ) → IsOrdered (equations_from s) → length s.outs.items ≡ 1 → s.inputs + bit_lines (map line_of s.lines.items) ≤ n → get_or s.outs.items 0 0 < n
first-room s n h one le = number-room n s.outs.items 0 0 (omega arith) (outputs-room s n s.outs.items refl h le)

-- the lines of two copies, behind those that were there
pub together-lines : (base observer : System) (sees : List Seen) (m : Memories) (bits : List ℕ) (b w : ℕ) (old l1 l2 : List plain.Line) (outs outs' seen sights mb mo : List ℕ) (ob ow : ℕ) → mb ≡ m.base.items → mo ≡ m.observer.items → outs ≡ map (placed bits b) base.outs.items → outs' ≡ outs → sights ≡ map (bit_seen bits outs') (map seen_of sees) → seen ≡ sights
    → ob ≡ b + bit_lines (map line_of base.lines.items) → ow ≡ w + word_lines (map line_of base.lines.items) → l1 ≡ old ++ copied (equations_from base) bits b mb w → l2 ≡ l1 ++ copied (equations_from observer) seen ob mo ow
    → l2 ≡ old ++ together (equations_from base) (equations_from observer) (map seen_of sees) bits (words_of m) b w
together-lines base observer sees m bits b w old l1 l2 outs outs' seen sights mb mo ob ow eb eo eu eu' es et en ew h g =
    let W = equations_from base in
    let J = equations_from observer in
    let S = seen_bits W J (map seen_of sees) bits b in
    let B = b + bit_lines W.lines in
    let V = w + word_lines W.lines in
    let sight : seen ≡ S = et ∙ es ∙ ap (λ (l : List ℕ). map (bit_seen bits l) (map seen_of sees)) (eu' ∙ eu) in
    let second : copied J seen ob mo ow ≡ copied J S B m.observer.items V = ap (λ (l : List ℕ). copied J l ob mo ow) sight ∙ ap (λ (k : ℕ). copied J S k mo ow) en ∙ ap (λ (l : List ℕ). copied J S B l ow) eo ∙ ap (λ (k : ℕ). copied J S B m.observer.items k) ew in
    let first : copied W bits b mb w ≡ copied W bits b m.base.items w = ap (λ (l : List ℕ). copied W bits b l w) eb in
    g ∙ ap (λ (l : List plain.Line). l ++ copied J seen ob mo ow) (h ∙ ap (λ (l : List plain.Line). old ++ l) first) ∙ ap (λ (l : List plain.Line). (old ++ copied W bits b m.base.items w) ++ l) second ∙ append_assoc old (copied W bits b m.base.items w) (copied J S B m.observer.items V)

-- one more copy for a set of the trace
pub sized-at : (n : ℕ) (sets : List SignalSet) (i : ℕ) (v : SignalSet) → AreSized n sets → i < length sets → v ≡ get_or sets i v → length v ≡ n
sized-at n [] i v h l e = absurd (omega arith)
sized-at n (x ∷ sets) zero v h l e = ap length e ∙ h.0
sized-at n (x ∷ sets) (suc i) v h l e = sized-at n sets i v h.1 (omega arith) e

module _ (W J : Equations) (seen : List plain_aspects.Seen) where
  pub along-step : (one : ℕ) (trace : List SignalSet) (i : ℕ) (v : SignalSet) (x y : Words) (b c w z : ℕ) (old new total : List plain.Line) → i < length trace → v ≡ get_or trace i v → new ≡ old ++ together W J seen (constants one v) x b w → y ≡ moved_on W J x w → c ≡ b + bits_together W J → z ≡ w + words_together W J
      → old ++ along W J seen one (drop i trace) x b w ≡ total → new ++ along W J seen one (drop (i + 1) trace) y c z ≡ total
  along-step one trace i v x y b c w z old new total l e n ey ec ez h =
      let rest = drop (i + 1) trace in
      let all_left : along W J seen one (drop i trace) x b w ≡ together W J seen (constants one v) x b w ++ along W J seen one rest (moved_on W J x w) (b + bits_together W J) (w + words_together W J) = at_drop_more (λ (t : List SignalSet). along W J seen one t x b w) trace i v l ∙ ap (λ (u : SignalSet). along W J seen one (u ∷ rest) x b w) (sym e) in
      ap (λ (k : List plain.Line). k ++ along W J seen one rest y c z) n
      ∙ ap (λ (k : Words). (old ++ together W J seen (constants one v) x b w) ++ along W J seen one rest k c z) ey
      ∙ ap (λ (k : ℕ). (old ++ together W J seen (constants one v) x b w) ++ along W J seen one rest (moved_on W J x w) k z) ec
      ∙ ap (λ (k : ℕ). (old ++ together W J seen (constants one v) x b w) ++ along W J seen one rest (moved_on W J x w) (b + bits_together W J) k) ez
      ∙ append_assoc old (together W J seen (constants one v) x b w) (along W J seen one rest (moved_on W J x w) (b + bits_together W J) (w + words_together W J))
      ∙ ap (λ (k : List plain.Line). old ++ k) (sym all_left) ∙ h

  pub behind-step : (trace : List SignalSet) (i : ℕ) (v : SignalSet) (x y end : Words) (w z : ℕ) → i < length trace → v ≡ get_or trace i v → y ≡ moved_on W J x w → z ≡ w + words_together W J → behind W J (drop i trace) x w ≡ end → behind W J (drop (i + 1) trace) y z ≡ end
  behind-step trace i v x y end w z l e ey ez h =
      ap (λ (k : Words). behind W J (drop (i + 1) trace) k z) ey ∙ ap (λ (k : ℕ). behind W J (drop (i + 1) trace) (moved_on W J x w) k) ez ∙ sym (at_drop_more (λ (t : List SignalSet). behind W J t x w) trace i v l) ∙ h

pub count-step : (trace : List SignalSet) (i n b c total : ℕ) (v : SignalSet) → i < length trace → c ≡ b + n → b + length (drop i trace) * n ≡ total → c + length (drop (i + 1) trace) * n ≡ total
count-step trace i n b c total v l e h =
    let all_left : length (drop i trace) * n ≡ suc (length (drop (i + 1) trace)) * n = at_drop_more (λ (t : List SignalSet). length t * n) trace i v l in
    omega (arith, suc-mul (length (drop (i + 1) trace)) n)

pub both-counts : (ls ks xs ys : List Line) (m n : ℕ) → m ≡ bit_lines (map line_of xs) → n ≡ bit_lines (map line_of ys) → xs ≡ ls → ys ≡ ks → m + n ≡ bit_lines (map line_of ls) + bit_lines (map line_of ks)
both-counts ls ks xs ys m n e f g h = ap (λ (k : ℕ). k + n) (e ∙ ap (λ (l : List Line). bit_lines (map line_of l)) g) ∙ ap (λ (k : ℕ). bit_lines (map line_of ls) + k) (f ∙ ap (λ (l : List Line). bit_lines (map line_of l)) h)

pub both-word-counts : (ls ks xs ys : List Line) (m n : ℕ) → m ≡ word_lines (map line_of xs) → n ≡ word_lines (map line_of ys) → xs ≡ ls → ys ≡ ks → m + n ≡ word_lines (map line_of ls) + word_lines (map line_of ks)
both-word-counts ls ks xs ys m n e f g h = ap (λ (k : ℕ). k + n) (e ∙ ap (λ (l : List Line). word_lines (map line_of l)) g) ∙ ap (λ (k : ℕ). word_lines (map line_of ls) + k) (f ∙ ap (λ (l : List Line). word_lines (map line_of l)) h)

pub ruleset copy_loops = (common_steps, nat_tests, All-literals, case-room, line-room, number-room, bit_and_word_lines, length-map)
