-- Diagrams give what the verdict is found from.
use Rattle.std.proofs.Common.{◌≡◌, ℕ, zero, suc, ◌<◌, List, [], ◌∷◌, ◌++◌, Bool, true, false, ◌&&◌, nat_lt, nat_le, IsTrue, refl, sym, ap, ◌∙◌, subst, arith, length, map, replicate, length-append}
use Rattle.std.specs.Prelude.{slice_index_or, flat_map}
use Rattle.std.proofs.lemmas.Bool.Decides.{nat_tests}
use Rattle.std.proofs.lemmas.List.{map-append}
use Rattle.argos_base.specs.SignalSets.{SignalSet}
use Rattle.argos_base.proofs.Bools.{and_first, and_second}
use Rattle.eqn_core.specs.Equations.{registers, word_count}
use Rattle.eqn_core.specs.Ordered.{all_between}
use Rattle.eqn_core.specs.Solutions.{bit_of, defined_words}
use Rattle.eqn_completion.specs.Binary.{code_bits, in_binary}
use Rattle.eqn_completion.specs.Completions.{as_read}
use Rattle.eqn_verdict.specs.Diagrams.{are_same}
use Rattle.eqn_verdict.specs.FromDiagrams.{never, DiagramsGiveFindings}
use Rattle.eqn_completion.specs.Findings.{Finding}
use Rattle.eqn_verdict.proofs.Finding.{same-itself, same-tells}
use Rattle.eqn_completion.proofs.Ordering.{length-fits}
use Rattle.eqn_completion.proofs.Reading.{length-words}

module _ (y x : SignalSet) where
  nth-bit : (bits : List Finding) (k : ℕ) → slice_index_or bits k never y x ≡ slice_index_or (map (λ (g : Finding). g y x) bits) k false
  nth-bit [] k = refl
  nth-bit (g ∷ bits) zero = refl
  nth-bit (g ∷ bits) (suc k) = nth-bit bits k

  nth-word : (words : List (List Finding)) (k : ℕ) → map (λ (g : Finding). g y x) (slice_index_or words k []) ≡ slice_index_or (map (map (λ (g : Finding). g y x)) words) k []
  nth-word [] k = refl
  nth-word (g ∷ words) zero = refl
  nth-word (g ∷ words) (suc k) = nth-word words k

  all-bits : (bits : List Finding) (values : List Bool) (ks : List ℕ) → map (λ (g : Finding). g y x) bits ≡ values → map (λ (k : ℕ). slice_index_or bits k never y x) ks ≡ map (λ (k : ℕ). slice_index_or values k false) ks
  all-bits bits values [] e = refl
  all-bits bits values (k ∷ ks) e = ap (λ (b : Bool). b ∷ map (λ (k : ℕ). slice_index_or bits k never y x) ks) (nth-bit bits k ∙ ap (λ (l : List Bool). slice_index_or l k false) e) ∙ ap (λ (l : List Bool). slice_index_or values k false ∷ l) (all-bits bits values ks e)

  applied : (bits : List Finding) (ks : List ℕ) → map (λ (g : Finding). g y x) (map (λ (k : ℕ). slice_index_or bits k never) ks) ≡ map (λ (k : ℕ). slice_index_or bits k never y x) ks
  applied bits [] = refl
  applied bits (k ∷ ks) = ap (λ (l : List Bool). slice_index_or bits k never y x ∷ l) (applied bits ks)

  nth-code : (values : List ℕ) (k : ℕ) → k < length values → slice_index_or (map (code_bits 16) values) k [] ≡ code_bits 16 (slice_index_or values k 0)
  nth-code [] k h = absurd (omega arith)
  nth-code (v ∷ values) zero h = refl
  nth-code (v ∷ values) (suc k) h = nth-code values k (omega arith)

  all-words : (words : List (List Finding)) (values : List ℕ) (lo : ℕ) (ks : List ℕ) → map (map (λ (g : Finding). g y x)) words ≡ map (code_bits 16) values → IsTrue (all_between lo (length values) ks) → map (λ (g : Finding). g y x) (flat_map (λ (k : ℕ). slice_index_or words k []) ks) ≡ in_binary (replicate (length (map (λ (k : ℕ). slice_index_or values k 0) ks)) 16) (map (λ (k : ℕ). slice_index_or values k 0) ks)
  all-words words values lo [] e b = refl
  all-words words values lo (k ∷ ks) e b =
      map-append (λ (g : Finding). g y x) (slice_index_or words k []) (flat_map (λ (k : ℕ). slice_index_or words k []) ks)
      ∙ ap (λ (l : List Bool). l ++ map (λ (g : Finding). g y x) (flat_map (λ (k : ℕ). slice_index_or words k []) ks)) (nth-word words k ∙ ap (λ (l : List (List Bool)). slice_index_or l k []) e ∙ nth-code values k (below k (length values) (and_second _ _ (and_first _ _ b))))
      ∙ ap (λ (l : List Bool). code_bits 16 (slice_index_or values k 0) ++ l) (all-words words values lo ks e (and_second (nat_le lo k && nat_lt k (length values)) _ b))
    where
      below : (a b : ℕ) → nat_lt a b ≡ true → a < b
      below a b h = grind (arith, nat_tests)

pub diagrams_give_findings : DiagramsGiveFindings
diagrams_give_findings E layout cyclic widths structural bits words orderable shapes wide diagrams fits = record {
  structural_is = fits;
  consistent_is = λ m i x s fit b c is.
      let y : SignalSet = in_binary widths m ++ i in
      let e : map (λ (k : ℕ). slice_index_or bits k never y x) cyclic ≡ map (bit_of s) cyclic = all-bits y x bits s.bits cyclic (diagrams.bits_are m i x s fit b c is) in
      (λ t. sym e ∙ same-tells _ x t, λ h. subst (λ (z : SignalSet). are_same z x ≡ true) (sym (e ∙ h)) (same-itself x));
  results_are = λ m i x s fit b c is.
      let y : SignalSet = in_binary widths m ++ i in
      let count : word_count E ≡ length s.words = omega (arith, ap length is.words, length-append m (flat_map (defined_words (as_read cyclic x s)) E.lines), length-words (as_read cyclic x s) E.lines, length-fits widths m fit, wide.sized, shapes) in
      map-append (λ (g : Finding). g y x) (map (λ (k : ℕ). slice_index_or bits k never) E.outputs) (flat_map (λ (k : ℕ). slice_index_or words k []) E.next)
      ∙ ap (λ (l : List Bool). l ++ map (λ (g : Finding). g y x) (flat_map (λ (k : ℕ). slice_index_or words k []) E.next)) (applied y x bits E.outputs ∙ all-bits y x bits s.bits E.outputs (diagrams.bits_are m i x s fit b c is))
      ∙ ap (λ (l : List Bool). map (bit_of s) E.outputs ++ l) (all-words y x words s.words (registers E) E.next (diagrams.words_are m i x s fit b c is) (subst (λ (n : ℕ). IsTrue (all_between (registers E) n E.next)) count orderable.next_exist));
}
