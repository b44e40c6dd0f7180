-- The states of an expansion have the names, and as many codes, as those that are written.
use Rattle.std.proofs.Common.{◌≡◌, ℕ, ◌+◌, List, ◌∷◌, Option, Some, None, length, map, refl, sym, ap, ◌∙◌, arith}
use Rattle.std.specs.Prelude.{option_map}
use Rattle.std.proofs.lemmas.List.{length-map}
use Rattle.argos_core.specs.Automata as automata
use Rattle.argos_grammar.specs.Forms.{TimedForm, StateForms, no_states, state}
use Rattle.argos_names.specs.Scope.{state_names}
use Rattle.argos_expansion.specs.Expansion.{Numbers, timeout_of, codes_of, codes_in, Known, grown_body, grown_states}

counts-timeout_of : (env : Numbers) (names : List (List ℕ)) (o : Option TimedForm) → automata.counts_of (option_map (timeout_of env names) o) ≡ codes_of o
counts-timeout_of env names None = refl
counts-timeout_of env names (Some t) = refl

module _ (ks : List Known) (env : Numbers) (names : List (List ℕ)) (depth : ℕ) where
  pub grown-names : (next : ℕ) (ss : StateForms) → map (λ r. r.name) (automata.rules_of (grown_states ks env names depth next ss).whole) ≡ state_names ss
  grown-names next no_states = refl
  grown-names next (state h b ss) = ap (λ (ns : List (List ℕ)). h.name.name ∷ ns) (grown-names (next + length (grown_body ks env depth next b).locals) ss)

  pub grown-length : (next : ℕ) (ss : StateForms) → length (automata.rules_of (grown_states ks env names depth next ss).whole) ≡ length (state_names ss)
  grown-length next ss = sym (length-map _ (λ r. r.name)) ∙ ap length (grown-names next ss)

  pub grown-codes : (next : ℕ) (ss : StateForms) → automata.code_count (grown_states ks env names depth next ss).whole ≡ codes_in ss
  grown-codes next no_states = refl
  grown-codes next (state h b ss) =
      let e = counts-timeout_of env names h.timed in
      let d = grown-codes (next + length (grown_body ks env depth next b).locals) ss in
      omega arith
