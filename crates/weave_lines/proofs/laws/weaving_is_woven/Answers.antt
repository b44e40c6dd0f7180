use Rattle.weave_lines.proofs.WovenLaws.{plain_is_woven, weaving_is_woven, weaving_is_small, weaving_can_join, woven_from_is_woven}
use Rattle.weave_lines.proofs.laws.weaving_is_woven.Goals as goal

pub returns-clause-plain : goal.returns-clause-plain
returns-clause-plain c = plain_is_woven

pub returns-clause-woven : goal.returns-clause-woven
returns-clause-woven c = weaving_is_woven

pub returns-clause-small : goal.returns-clause-small
returns-clause-small c = weaving_is_small

pub returns-clause-list : goal.returns-clause-list
returns-clause-list c = woven_from_is_woven

pub returns-clause-join : goal.returns-clause-join
returns-clause-join c = weaving_can_join
