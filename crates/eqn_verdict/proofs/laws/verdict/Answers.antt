use Rattle.eqn_verdict.proofs.Instant.{instant_finds}
use Rattle.eqn_verdict.proofs.FromDiagrams.{diagrams_give_findings}
use Rattle.eqn_verdict.proofs.Searches.{skipped_dont_differ}
use Rattle.eqn_verdict.proofs.Finding.{findings_exist}
use Rattle.eqn_verdict.proofs.Verdict.{verdict_is_one, verdict_is_first_bad}
use Rattle.eqn_verdict.proofs.laws.verdict.Goals as goal

pub returns-clause-one : goal.returns-clause-one
returns-clause-one c = verdict_is_one

pub returns-clause-first_bad : goal.returns-clause-first_bad
returns-clause-first_bad c = verdict_is_first_bad

pub returns-clause-exist : goal.returns-clause-exist
returns-clause-exist c = findings_exist

pub returns-clause-skipped : goal.returns-clause-skipped
returns-clause-skipped c = skipped_dont_differ

pub returns-clause-diagrams : goal.returns-clause-diagrams
returns-clause-diagrams c = diagrams_give_findings

pub returns-clause-instant : goal.returns-clause-instant
returns-clause-instant c = instant_finds
