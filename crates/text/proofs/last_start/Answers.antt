use Rattle.text.proofs.Windows.{three-starts}
use Rattle.text.proofs.last_start.Goals as goal

pub returns-then-s-j-ge192 : goal.returns-then-s-j-ge192
returns-then-s-j-ge192 c =
    let a = c.args in
    λ from t. (three-starts a.s.now from a.at t).by_third c.if-s-j-ge192.true

pub returns-then-s-i-ge224 : goal.returns-then-s-i-ge224
returns-then-s-i-ge224 c =
    let a = c.args in
    λ from t. (three-starts a.s.now from a.at t).by_second c.if-s-j-ge192.false c.if-s-i-ge224.true

pub returns-then-s-at-ge240 : goal.returns-then-s-at-ge240
returns-then-s-at-ge240 c =
    let a = c.args in
    λ from t. (three-starts a.s.now from a.at t).by_first c.if-s-j-ge192.false c.if-s-i-ge224.false c.if-s-at-ge240.true

pub returns : goal.returns
returns c =
    let a = c.args in
    λ from t. (three-starts a.s.now from a.at t).by_none c.if-s-j-ge192.false c.if-s-i-ge224.false c.if-s-at-ge240.false
