-- `read_frame::code_of_word` meets its contract. Assumes nothing.
use borrow.Author.Tests.{ne_eqb}
use Rattle.meaning.specs.Bytes.{choose}
use Rattle.read_frame.specs.Codes.{word_in}
use Rattle.read_frame.proofs.codes.code_of_word.Goals as goal

pub returns-in-1414415187 : goal.returns-in-1414415187
unfolding word_in choose
returns-in-1414415187 c = rw c.in-1414415187.is

pub returns-in-791621423 : goal.returns-in-791621423
unfolding word_in choose
returns-in-791621423 c = rw c.in-791621423.is

pub returns-in-1145656397 : goal.returns-in-1145656397
unfolding word_in choose
returns-in-1145656397 c = rw c.in-1145656397.is

pub returns-in-1381257037 : goal.returns-in-1381257037
unfolding word_in choose
returns-in-1381257037 c = rw c.in-1381257037.is

pub returns-in-1279545165 : goal.returns-in-1279545165
unfolding word_in choose
returns-in-1279545165 c = rw c.in-1279545165.is

pub returns-in-1229999956 : goal.returns-in-1229999956
unfolding word_in choose
returns-in-1229999956 c = rw c.in-1229999956.is

pub returns-in-1279410516 : goal.returns-in-1279410516
unfolding word_in choose
returns-in-1279410516 c = rw c.in-1279410516.is

pub returns-in-1162494543 : goal.returns-in-1162494543
unfolding word_in choose
returns-in-1162494543 c = rw c.in-1162494543.is

pub returns-in-1414550611 : goal.returns-in-1414550611
unfolding word_in choose
returns-in-1414550611 c = rw c.in-1414550611.is

pub returns-in-1414547788 : goal.returns-in-1414547788
unfolding word_in choose
returns-in-1414547788 c = rw c.in-1414547788.is

pub returns-in-1346589249 : goal.returns-in-1346589249
unfolding word_in choose
returns-in-1346589249 c = rw c.in-1346589249.is

pub returns-in-1313426501 : goal.returns-in-1313426501
unfolding word_in choose
returns-in-1313426501 c = rw c.in-1313426501.is

pub returns-in-1111577669 : goal.returns-in-1111577669
unfolding word_in choose
returns-in-1111577669 c = rw c.in-1111577669.is

pub returns-in-1347376197 : goal.returns-in-1347376197
unfolding word_in choose
returns-in-1347376197 c = rw c.in-1347376197.is

pub returns-in-1146047813 : goal.returns-in-1146047813
unfolding word_in choose
returns-in-1146047813 c = rw c.in-1146047813.is

pub returns-in-1162104389 : goal.returns-in-1162104389
unfolding word_in choose
returns-in-1162104389 c = rw c.in-1162104389.is

pub returns-in_default : goal.returns-in_default
unfolding word_in choose
returns-in_default c =
    let w = c.args.w in
    let r = c.in_default.in_default-own.rest in
    rw (ne_eqb w 0x544e4353 r.0.0.0.0.0.0.0.0.0.0.0.0.0.0.0.1, ne_eqb w 0x2f2f2f2f r.0.0.0.0.0.0.0.0.0.0.0.0.0.0.1, ne_eqb w 0x4449544d r.0.0.0.0.0.0.0.0.0.0.0.0.0.1, ne_eqb w 0x52544f4d r.0.0.0.0.0.0.0.0.0.0.0.0.1, ne_eqb w 0x4c444f4d r.0.0.0.0.0.0.0.0.0.0.0.1, ne_eqb w 0x49504f54 r.0.0.0.0.0.0.0.0.0.0.1, ne_eqb w 0x4c424154 r.0.0.0.0.0.0.0.0.0.1, ne_eqb w 0x454a424f r.0.0.0.0.0.0.0.0.1, ne_eqb w 0x54505453 r.0.0.0.0.0.0.0.1, ne_eqb w 0x5450494c r.0.0.0.0.0.0.1, ne_eqb w 0x50435241 r.0.0.0.0.0.1, ne_eqb w 0x4e494c45 r.0.0.0.0.1, ne_eqb w 0x42415445 r.0.0.0.1, ne_eqb w 0x504f5445 r.0.0.1, ne_eqb w 0x444f4d45 r.0.1, ne_eqb w 0x45444e45 r.1)
