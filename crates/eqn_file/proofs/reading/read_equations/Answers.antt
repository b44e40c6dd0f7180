use Rattle.std.proofs.Common.{◌≡◌, ℕ, ◌+◌, List, length, map, sym, ap, ◌∙◌, subst}
use Rattle.std.proofs.lemmas.Result.{err_from_is_err_and}
use Rattle.eqn_core.specs.Equations.{Line, bit_lines, word_lines, Equations}
use Rattle.eqn_core.specs.Views.{line_of}
use Rattle.line_format.specs.FileNames.{FileNames}
use Rattle.eqn_file.specs.EquationFile.{IsEquationText}
use Rattle.eqn_file.specs.Errors.{TellsFault}
use Rattle.eqn_file.specs.inner.Sections.{StandsAt}
use Rattle.eqn_file.specs.inner.Stages.{system, names, at_codes}
use Rattle.eqn_file.proofs.ReadSteps.{stands_first, same_system, text_read, no_err}
use Rattle.eqn_file.proofs.reading.read_equations.Goals as goal

pub returns-in_err-head-clause-fault : goal.returns-in_err-head-clause-fault
returns-in_err-head-clause-fault c =
    let h0 = stands_first c.args.bytes.now c.new-reader.result c.new-reader.ensures.rest c.new-reader.ensures.number in
    let m : TellsFault c.args.bytes.now c.in_err-head.field-0.0 = (c.in_err-head.ensures {u = tt}).err c.args.bytes.now h0 in
    let out = err_from_is_err_and c.from_residual.result c.from_residual.ensures.1 in
    rw (out.1, out.2) m

pub returns-in_err-inputs-clause-fault : goal.returns-in_err-inputs-clause-fault
returns-in_err-inputs-clause-fault c =
    let h0 = stands_first c.args.bytes.now c.new-reader.result c.new-reader.ensures.rest c.new-reader.ensures.number in
    let h1 = (c.in_ok-head.ensures {u = tt}).ok c.args.bytes.now h0 in
    let m : TellsFault c.args.bytes.now c.in_err-inputs.field-0.0 = (c.in_err-inputs.ensures {u = tt}).err c.args.bytes.now h1 in
    let out = err_from_is_err_and c.from_residual-in_err-inputs.result c.from_residual-in_err-inputs.ensures.1 in
    rw (out.1, out.2) m

pub returns-in_err-outputs-clause-fault : goal.returns-in_err-outputs-clause-fault
returns-in_err-outputs-clause-fault c =
    let h0 = stands_first c.args.bytes.now c.new-reader.result c.new-reader.ensures.rest c.new-reader.ensures.number in
    let h1 = (c.in_ok-head.ensures {u = tt}).ok c.args.bytes.now h0 in
    let h2 = (c.in_ok-inputs.ensures {u = tt}).ok c.args.bytes.now h1 in
    let m : TellsFault c.args.bytes.now c.in_err-outputs.field-0.0 = (c.in_err-outputs.ensures {u = tt}).err (length c.in_ok-inputs.inputs) c.args.bytes.now h2 in
    let out = err_from_is_err_and c.from_residual-in_err-outputs.result c.from_residual-in_err-outputs.ensures.1 in
    rw (out.1, out.2) m

pub returns-in_err-init-clause-fault : goal.returns-in_err-init-clause-fault
returns-in_err-init-clause-fault c =
    let h0 = stands_first c.args.bytes.now c.new-reader.result c.new-reader.ensures.rest c.new-reader.ensures.number in
    let h1 = (c.in_ok-head.ensures {u = tt}).ok c.args.bytes.now h0 in
    let h2 = (c.in_ok-inputs.ensures {u = tt}).ok c.args.bytes.now h1 in
    let I : ℕ = length c.in_ok-inputs.inputs in
    let h3 = (c.in_ok-outputs.ensures {u = tt}).ok I c.args.bytes.now h2 in
    let m : TellsFault c.args.bytes.now c.in_err-init.field-0.0 = (c.in_err-init.ensures {u = tt}).err I c.in_ok-inputs.inputs c.in_ok-outputs.outputs c.args.bytes.now h3 in
    let out = err_from_is_err_and c.from_residual-in_err-init.result c.from_residual-in_err-init.ensures.1 in
    rw (out.1, out.2) m

pub returns-in_err-lines-clause-fault : goal.returns-in_err-lines-clause-fault
returns-in_err-lines-clause-fault c =
    let h0 = stands_first c.args.bytes.now c.new-reader.result c.new-reader.ensures.rest c.new-reader.ensures.number in
    let h1 = (c.in_ok-head.ensures {u = tt}).ok c.args.bytes.now h0 in
    let h2 = (c.in_ok-inputs.ensures {u = tt}).ok c.args.bytes.now h1 in
    let I : ℕ = length c.in_ok-inputs.inputs in
    let h3 = (c.in_ok-outputs.ensures {u = tt}).ok I c.args.bytes.now h2 in
    let ns : FileNames = names c.in_ok-inputs.inputs c.in_ok-outputs.outputs in
    let h4 = (c.in_ok-init.ensures {u = tt}).ok I c.in_ok-inputs.inputs c.in_ok-outputs.outputs c.args.bytes.now h3 in
    let J : ℕ = c.len.result in
    let h4' : StandsAt c.args.bytes.now c.registers.new.reader (at_codes J ns 0 c.in_ok-init.init.items) = subst (λ k. StandsAt c.args.bytes.now c.registers.new.reader (at_codes k ns 0 c.in_ok-init.init.items)) (sym c.len.ensures.count) h4 in
    let init_sized : length c.in_ok-init.init.items ≡ c.len-2.result = sym (c.len-2.ensures ∙ c.in_ok-init.init.ok.0) in
    let m : TellsFault c.args.bytes.now c.in_err-lines.field-0.0 = (c.in_err-lines.ensures {u = tt}).err ns c.in_ok-init.init.items init_sized c.args.bytes.now h4' in
    let out = err_from_is_err_and c.from_residual-in_err-lines.result c.from_residual-in_err-lines.ensures.1 in
    rw (out.1, out.2) m

pub returns-in_err-outs-clause-fault : goal.returns-in_err-outs-clause-fault
returns-in_err-outs-clause-fault c =
    let h0 = stands_first c.args.bytes.now c.new-reader.result c.new-reader.ensures.rest c.new-reader.ensures.number in
    let h1 = (c.in_ok-head.ensures {u = tt}).ok c.args.bytes.now h0 in
    let h2 = (c.in_ok-inputs.ensures {u = tt}).ok c.args.bytes.now h1 in
    let I : ℕ = length c.in_ok-inputs.inputs in
    let h3 = (c.in_ok-outputs.ensures {u = tt}).ok I c.args.bytes.now h2 in
    let ns : FileNames = names c.in_ok-inputs.inputs c.in_ok-outputs.outputs in
    let h4 = (c.in_ok-init.ensures {u = tt}).ok I c.in_ok-inputs.inputs c.in_ok-outputs.outputs c.args.bytes.now h3 in
    let J : ℕ = c.len.result in
    let h4' : StandsAt c.args.bytes.now c.registers.new.reader (at_codes J ns 0 c.in_ok-init.init.items) = subst (λ k. StandsAt c.args.bytes.now c.registers.new.reader (at_codes k ns 0 c.in_ok-init.init.items)) (sym c.len.ensures.count) h4 in
    let init_sized : length c.in_ok-init.init.items ≡ c.len-2.result = sym (c.len-2.ensures ∙ c.in_ok-init.init.ok.0) in
    let ls : List Line = map line_of c.in_ok-lines.field-0.lines.items in
    let h5 = (c.in_ok-lines.ensures {u = tt}).ok ns c.in_ok-init.init.items init_sized c.args.bytes.now h4' in
    let bits_are : c.in_ok-lines.field-0.bounds.bits ≡ J + bit_lines ls = (c.in_ok-lines.ensures {u = tt}).bits in
    let outs_sized : c.len-3.result ≡ length c.in_ok-outputs.outputs = c.len-3.ensures.count in
    let m : TellsFault c.args.bytes.now c.in_err-outs.field-0.0 = (c.in_err-outs.ensures {u = tt}).err J ns c.in_ok-init.init.items ls bits_are outs_sized c.args.bytes.now h5 in
    let out = err_from_is_err_and c.from_residual-in_err-outs.result c.from_residual-in_err-outs.ensures.1 in
    rw (out.1, out.2) m

pub returns-in_err-next-clause-fault : goal.returns-in_err-next-clause-fault
returns-in_err-next-clause-fault c =
    let h0 = stands_first c.args.bytes.now c.new-reader.result c.new-reader.ensures.rest c.new-reader.ensures.number in
    let h1 = (c.in_ok-head.ensures {u = tt}).ok c.args.bytes.now h0 in
    let h2 = (c.in_ok-inputs.ensures {u = tt}).ok c.args.bytes.now h1 in
    let I : ℕ = length c.in_ok-inputs.inputs in
    let h3 = (c.in_ok-outputs.ensures {u = tt}).ok I c.args.bytes.now h2 in
    let ns : FileNames = names c.in_ok-inputs.inputs c.in_ok-outputs.outputs in
    let h4 = (c.in_ok-init.ensures {u = tt}).ok I c.in_ok-inputs.inputs c.in_ok-outputs.outputs c.args.bytes.now h3 in
    let J : ℕ = c.len.result in
    let h4' : StandsAt c.args.bytes.now c.registers.new.reader (at_codes J ns 0 c.in_ok-init.init.items) = subst (λ k. StandsAt c.args.bytes.now c.registers.new.reader (at_codes k ns 0 c.in_ok-init.init.items)) (sym c.len.ensures.count) h4 in
    let init_sized : length c.in_ok-init.init.items ≡ c.len-2.result = sym (c.len-2.ensures ∙ c.in_ok-init.init.ok.0) in
    let ls : List Line = map line_of c.in_ok-lines.field-0.lines.items in
    let h5 = (c.in_ok-lines.ensures {u = tt}).ok ns c.in_ok-init.init.items init_sized c.args.bytes.now h4' in
    let bits_are : c.in_ok-lines.field-0.bounds.bits ≡ J + bit_lines ls = (c.in_ok-lines.ensures {u = tt}).bits in
    let outs_sized : c.len-3.result ≡ length c.in_ok-outputs.outputs = c.len-3.ensures.count in
    let h6 = (c.in_ok-outs.ensures {u = tt}).ok J ns c.in_ok-init.init.items ls bits_are outs_sized c.args.bytes.now h5 in
    let next_sized : c.len-4.result ≡ length c.in_ok-init.init.items = c.len-4.ensures ∙ c.in_ok-init.init.ok.0 in
    let words_are : c.in_ok-lines.field-0.bounds.words ≡ length c.in_ok-init.init.items + word_lines ls = (c.in_ok-lines.ensures {u = tt}).words ∙ ap (λ k. k + word_lines ls) (sym init_sized) in
    let m : TellsFault c.args.bytes.now c.in_err-next.field-0.0 = (c.in_err-next.ensures {u = tt}).err J ns c.in_ok-init.init.items ls c.in_ok-outs.outs.items next_sized words_are c.args.bytes.now h6 in
    let out = err_from_is_err_and c.from_residual-in_err-next.result c.from_residual-in_err-next.ensures.1 in
    rw (out.1, out.2) m

pub returns-in_err-end-clause-fault : goal.returns-in_err-end-clause-fault
returns-in_err-end-clause-fault c =
    let h0 = stands_first c.args.bytes.now c.new-reader.result c.new-reader.ensures.rest c.new-reader.ensures.number in
    let h1 = (c.in_ok-head.ensures {u = tt}).ok c.args.bytes.now h0 in
    let h2 = (c.in_ok-inputs.ensures {u = tt}).ok c.args.bytes.now h1 in
    let I : ℕ = length c.in_ok-inputs.inputs in
    let h3 = (c.in_ok-outputs.ensures {u = tt}).ok I c.args.bytes.now h2 in
    let ns : FileNames = names c.in_ok-inputs.inputs c.in_ok-outputs.outputs in
    let h4 = (c.in_ok-init.ensures {u = tt}).ok I c.in_ok-inputs.inputs c.in_ok-outputs.outputs c.args.bytes.now h3 in
    let J : ℕ = c.len.result in
    let h4' : StandsAt c.args.bytes.now c.registers.new.reader (at_codes J ns 0 c.in_ok-init.init.items) = subst (λ k. StandsAt c.args.bytes.now c.registers.new.reader (at_codes k ns 0 c.in_ok-init.init.items)) (sym c.len.ensures.count) h4 in
    let init_sized : length c.in_ok-init.init.items ≡ c.len-2.result = sym (c.len-2.ensures ∙ c.in_ok-init.init.ok.0) in
    let ls : List Line = map line_of c.in_ok-lines.field-0.lines.items in
    let h5 = (c.in_ok-lines.ensures {u = tt}).ok ns c.in_ok-init.init.items init_sized c.args.bytes.now h4' in
    let bits_are : c.in_ok-lines.field-0.bounds.bits ≡ J + bit_lines ls = (c.in_ok-lines.ensures {u = tt}).bits in
    let outs_sized : c.len-3.result ≡ length c.in_ok-outputs.outputs = c.len-3.ensures.count in
    let h6 = (c.in_ok-outs.ensures {u = tt}).ok J ns c.in_ok-init.init.items ls bits_are outs_sized c.args.bytes.now h5 in
    let next_sized : c.len-4.result ≡ length c.in_ok-init.init.items = c.len-4.ensures ∙ c.in_ok-init.init.ok.0 in
    let words_are : c.in_ok-lines.field-0.bounds.words ≡ length c.in_ok-init.init.items + word_lines ls = (c.in_ok-lines.ensures {u = tt}).words ∙ ap (λ k. k + word_lines ls) (sym init_sized) in
    let h7 = (c.in_ok-next.ensures {u = tt}).ok J ns c.in_ok-init.init.items ls c.in_ok-outs.outs.items next_sized words_are c.args.bytes.now h6 in
    let E : Equations = system J c.in_ok-init.init.items ls c.in_ok-outs.outs.items c.in_ok-next.next.items in
    let m : TellsFault c.args.bytes.now c.in_err-end.field-0.0 = (c.in_err-end.ensures {u = tt}).err E ns c.args.bytes.now h7 in
    let out = err_from_is_err_and c.from_residual-in_err-end.result c.from_residual-in_err-end.ensures.1 in
    rw (out.1, out.2) m

pub invariant_of-result : goal.invariant_of-result
invariant_of-result c =
    let h0 = stands_first c.args.bytes.now c.new-reader.result c.new-reader.ensures.rest c.new-reader.ensures.number in
    let h1 = (c.in_ok-head.ensures {u = tt}).ok c.args.bytes.now h0 in
    let h2 = (c.in_ok-inputs.ensures {u = tt}).ok c.args.bytes.now h1 in
    let I : ℕ = length c.in_ok-inputs.inputs in
    let h3 = (c.in_ok-outputs.ensures {u = tt}).ok I c.args.bytes.now h2 in
    let ns : FileNames = names c.in_ok-inputs.inputs c.in_ok-outputs.outputs in
    let h4 = (c.in_ok-init.ensures {u = tt}).ok I c.in_ok-inputs.inputs c.in_ok-outputs.outputs c.args.bytes.now h3 in
    let J : ℕ = c.len.result in
    let h4' : StandsAt c.args.bytes.now c.registers.new.reader (at_codes J ns 0 c.in_ok-init.init.items) = subst (λ k. StandsAt c.args.bytes.now c.registers.new.reader (at_codes k ns 0 c.in_ok-init.init.items)) (sym c.len.ensures.count) h4 in
    let init_sized : length c.in_ok-init.init.items ≡ c.len-2.result = sym (c.len-2.ensures ∙ c.in_ok-init.init.ok.0) in
    let ls : List Line = map line_of c.in_ok-lines.field-0.lines.items in
    let h5 = (c.in_ok-lines.ensures {u = tt}).ok ns c.in_ok-init.init.items init_sized c.args.bytes.now h4' in
    let bits_are : c.in_ok-lines.field-0.bounds.bits ≡ J + bit_lines ls = (c.in_ok-lines.ensures {u = tt}).bits in
    let outs_sized : c.len-3.result ≡ length c.in_ok-outputs.outputs = c.len-3.ensures.count in
    let h6 = (c.in_ok-outs.ensures {u = tt}).ok J ns c.in_ok-init.init.items ls bits_are outs_sized c.args.bytes.now h5 in
    let next_sized : c.len-4.result ≡ length c.in_ok-init.init.items = c.len-4.ensures ∙ c.in_ok-init.init.ok.0 in
    let words_are : c.in_ok-lines.field-0.bounds.words ≡ length c.in_ok-init.init.items + word_lines ls = (c.in_ok-lines.ensures {u = tt}).words ∙ ap (λ k. k + word_lines ls) (sym init_sized) in
    let h7 = (c.in_ok-next.ensures {u = tt}).ok J ns c.in_ok-init.init.items ls c.in_ok-outs.outs.items next_sized words_are c.args.bytes.now h6 in
    let E : Equations = system J c.in_ok-init.init.items ls c.in_ok-outs.outs.items c.in_ok-next.next.items in
    let h8 = (c.in_ok-end.ensures {u = tt}).ok E ns c.args.bytes.now h7 in
    let same = same_system J c.len-5.result c.in_ok-init.init.items ls c.in_ok-outs.outs.items c.in_ok-next.next.items c.new.result.items (c.len.ensures.count ∙ sym c.len-5.ensures.count) c.new.ensures.items in
    let text = text_read c.args.bytes.now c.end.new.reader E _ ns h8 (c.in_ok-end.ensures {u = tt}).rest same in
    record { distinct = text.names.distinct }

pub unreachable-requires : goal.unreachable-requires
unreachable-requires c =
    let h0 = stands_first c.args.bytes.now c.new-reader.result c.new-reader.ensures.rest c.new-reader.ensures.number in
    let h1 = (c.in_ok-head.ensures {u = tt}).ok c.args.bytes.now h0 in
    let h2 = (c.in_ok-inputs.ensures {u = tt}).ok c.args.bytes.now h1 in
    let I : ℕ = length c.in_ok-inputs.inputs in
    let h3 = (c.in_ok-outputs.ensures {u = tt}).ok I c.args.bytes.now h2 in
    let ns : FileNames = names c.in_ok-inputs.inputs c.in_ok-outputs.outputs in
    let h4 = (c.in_ok-init.ensures {u = tt}).ok I c.in_ok-inputs.inputs c.in_ok-outputs.outputs c.args.bytes.now h3 in
    let J : ℕ = c.len.result in
    let h4' : StandsAt c.args.bytes.now c.registers.new.reader (at_codes J ns 0 c.in_ok-init.init.items) = subst (λ k. StandsAt c.args.bytes.now c.registers.new.reader (at_codes k ns 0 c.in_ok-init.init.items)) (sym c.len.ensures.count) h4 in
    let init_sized : length c.in_ok-init.init.items ≡ c.len-2.result = sym (c.len-2.ensures ∙ c.in_ok-init.init.ok.0) in
    let ls : List Line = map line_of c.in_ok-lines.field-0.lines.items in
    let h5 = (c.in_ok-lines.ensures {u = tt}).ok ns c.in_ok-init.init.items init_sized c.args.bytes.now h4' in
    let bits_are : c.in_ok-lines.field-0.bounds.bits ≡ J + bit_lines ls = (c.in_ok-lines.ensures {u = tt}).bits in
    let outs_sized : c.len-3.result ≡ length c.in_ok-outputs.outputs = c.len-3.ensures.count in
    let h6 = (c.in_ok-outs.ensures {u = tt}).ok J ns c.in_ok-init.init.items ls bits_are outs_sized c.args.bytes.now h5 in
    let next_sized : c.len-4.result ≡ length c.in_ok-init.init.items = c.len-4.ensures ∙ c.in_ok-init.init.ok.0 in
    let words_are : c.in_ok-lines.field-0.bounds.words ≡ length c.in_ok-init.init.items + word_lines ls = (c.in_ok-lines.ensures {u = tt}).words ∙ ap (λ k. k + word_lines ls) (sym init_sized) in
    let h7 = (c.in_ok-next.ensures {u = tt}).ok J ns c.in_ok-init.init.items ls c.in_ok-outs.outs.items next_sized words_are c.args.bytes.now h6 in
    let E : Equations = system J c.in_ok-init.init.items ls c.in_ok-outs.outs.items c.in_ok-next.next.items in
    let h8 = (c.in_ok-end.ensures {u = tt}).ok E ns c.args.bytes.now h7 in
    let same = same_system J c.len-5.result c.in_ok-init.init.items ls c.in_ok-outs.outs.items c.in_ok-next.next.items c.new.result.items (c.len.ensures.count ∙ sym c.len-5.ensures.count) c.new.ensures.items in
    let text = text_read c.args.bytes.now c.end.new.reader E _ ns h8 (c.in_ok-end.ensures {u = tt}).rest same in
    no_err c.from_system.result c.in-Err.field-0 c.in-Err.is (c.from_system.ensures.ordered.1 text.ordered)

pub returns-clause-text : goal.returns-clause-text
returns-clause-text c =
    let h0 = stands_first c.args.bytes.now c.new-reader.result c.new-reader.ensures.rest c.new-reader.ensures.number in
    let h1 = (c.in_ok-head.ensures {u = tt}).ok c.args.bytes.now h0 in
    let h2 = (c.in_ok-inputs.ensures {u = tt}).ok c.args.bytes.now h1 in
    let I : ℕ = length c.in_ok-inputs.inputs in
    let h3 = (c.in_ok-outputs.ensures {u = tt}).ok I c.args.bytes.now h2 in
    let ns : FileNames = names c.in_ok-inputs.inputs c.in_ok-outputs.outputs in
    let h4 = (c.in_ok-init.ensures {u = tt}).ok I c.in_ok-inputs.inputs c.in_ok-outputs.outputs c.args.bytes.now h3 in
    let J : ℕ = c.len.result in
    let h4' : StandsAt c.args.bytes.now c.registers.new.reader (at_codes J ns 0 c.in_ok-init.init.items) = subst (λ k. StandsAt c.args.bytes.now c.registers.new.reader (at_codes k ns 0 c.in_ok-init.init.items)) (sym c.len.ensures.count) h4 in
    let init_sized : length c.in_ok-init.init.items ≡ c.len-2.result = sym (c.len-2.ensures ∙ c.in_ok-init.init.ok.0) in
    let ls : List Line = map line_of c.in_ok-lines.field-0.lines.items in
    let h5 = (c.in_ok-lines.ensures {u = tt}).ok ns c.in_ok-init.init.items init_sized c.args.bytes.now h4' in
    let bits_are : c.in_ok-lines.field-0.bounds.bits ≡ J + bit_lines ls = (c.in_ok-lines.ensures {u = tt}).bits in
    let outs_sized : c.len-3.result ≡ length c.in_ok-outputs.outputs = c.len-3.ensures.count in
    let h6 = (c.in_ok-outs.ensures {u = tt}).ok J ns c.in_ok-init.init.items ls bits_are outs_sized c.args.bytes.now h5 in
    let next_sized : c.len-4.result ≡ length c.in_ok-init.init.items = c.len-4.ensures ∙ c.in_ok-init.init.ok.0 in
    let words_are : c.in_ok-lines.field-0.bounds.words ≡ length c.in_ok-init.init.items + word_lines ls = (c.in_ok-lines.ensures {u = tt}).words ∙ ap (λ k. k + word_lines ls) (sym init_sized) in
    let h7 = (c.in_ok-next.ensures {u = tt}).ok J ns c.in_ok-init.init.items ls c.in_ok-outs.outs.items next_sized words_are c.args.bytes.now h6 in
    let E : Equations = system J c.in_ok-init.init.items ls c.in_ok-outs.outs.items c.in_ok-next.next.items in
    let h8 = (c.in_ok-end.ensures {u = tt}).ok E ns c.args.bytes.now h7 in
    let same = same_system J c.len-5.result c.in_ok-init.init.items ls c.in_ok-outs.outs.items c.in_ok-next.next.items c.new.result.items (c.len.ensures.count ∙ sym c.len-5.ensures.count) c.new.ensures.items in
    let text = text_read c.args.bytes.now c.end.new.reader E _ ns h8 (c.in_ok-end.ensures {u = tt}).rest same in
    subst (λ (z : Equations). IsEquationText c.args.bytes.now z ns) (sym (c.in-Ok.ensures {u = tt}).kept) text
