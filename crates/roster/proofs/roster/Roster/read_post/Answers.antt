use Rattle.std.proofs.Common.{◌≡◌, vec_items, Some, arith, rules}
use Rattle.roster.specs.Entries.{after_post, post_holds, post_line, signals_holds, with_signals}
use Rattle.roster.specs.Parts.{line_of}
use Rattle.roster.specs.Rosters.{entries, post_name}
use Rattle.roster.proofs.Growing.{stays_below}
use Rattle.roster.proofs.Judging.{judged_as, judged_exit, post_breaks, post_joins, post_passes}
use Rattle.roster.proofs.roster.Roster.read_post.Goals as goal

pub returns-in_err-add_post : goal.returns-in_err-add_post
returns-in_err-add_post c =
    let e = entries c.args.self.now in
    let ps = vec_items c.args.self.now.posts in
    let p = line_of c.in_ok-post.post in
    let formed : post_line c.args.text.now ≡ Some p = search rules in
    let room = stays_below post_name ps 8 (omega (arith, c.args.self.now.posts.ok.0, c.len.ensures)) in
    let held = post_breaks e c.args.ruled c.args.line c.args.text.now p c.if-not-are_line_bytes.ensures formed c.if-ruled.false room _ c.in_err-add_post.ensures in
    judged_exit (post_holds e c.args.ruled c.args.line c.args.text.now) (after_post e c.args.text.now) (entries c.add_post.new.self) _ _ c.from_residual-in_err-add_post.ensures.1 held

pub returns : goal.returns
returns c =
    let e = entries c.args.self.now in
    let ps = vec_items c.args.self.now.posts in
    let p = line_of c.in_ok-post.post in
    let d = entries c.add_post.new.self in
    let formed : post_line c.args.text.now ≡ Some p = search rules in
    let room = stays_below post_name ps 8 (omega (arith, c.args.self.now.posts.ok.0, c.len.ensures)) in
    let added = c.in_ok-add_post.ensures in
    let passes = post_passes e c.args.ruled c.args.line c.args.text.now p c.if-not-are_line_bytes.ensures formed c.if-ruled.false room d added.0 added.1 in
    let joins = post_joins e c.args.ruled c.args.line c.args.text.now p c.if-not-are_line_bytes.ensures formed c.if-ruled.false d added.1 in
    judged_as (post_holds e c.args.ruled c.args.line c.args.text.now) (signals_holds d c.args.line p.signals) (after_post e c.args.text.now) (with_signals d p.signals) (entries c.add_signals.new.self) _ passes joins c.add_signals.ensures
