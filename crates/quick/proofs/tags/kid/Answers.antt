-- One letter after the other.
use Rattle.quick.proofs.TagLaws.{kid_p, kid_a, kid_o, kid_s_lem, kid_m_lem, kid_r, kid_x, kid_w}
use Rattle.quick.proofs.tags.kid.Goals as goal

pub returns-in-1-eq80 : goal.returns-in-1-eq80
returns-in-1-eq80 c = kid_p _ _ c.in-1-eq80.is-0 c.in-1-eq80.is-1

pub returns-in-1-eq65 : goal.returns-in-1-eq65
returns-in-1-eq65 c = kid_a _ _ c.in-1-eq65.is-0 c.in-1-eq65.is-1

pub returns-in-1-eq79 : goal.returns-in-1-eq79
returns-in-1-eq79 c = kid_o _ _ c.in-1-eq79.is-0 c.in-1-eq79.is-1

pub returns-in-1-eq83 : goal.returns-in-1-eq83
returns-in-1-eq83 c = kid_s_lem _ _ c.in-1-eq83.is-0 c.in-1-eq83.is-1

pub returns-in-5-eq77 : goal.returns-in-5-eq77
returns-in-5-eq77 c = kid_m_lem _ _ c.in-5-eq77.is-0 c.in-5-eq77.is-1

pub returns-in-5-eq82 : goal.returns-in-5-eq82
returns-in-5-eq82 c = kid_r _ _ c.in-5-eq82.is-0 c.in-5-eq82.is-1

pub returns-in-5-eq88 : goal.returns-in-5-eq88
returns-in-5-eq88 c = kid_x _ _ c.in-5-eq88.is-0 c.in-5-eq88.is-1

pub returns-in-6-eq87 : goal.returns-in-6-eq87
returns-in-6-eq87 c = kid_w _ _ c.in-6-eq87.is-0 c.in-6-eq87.is-1
