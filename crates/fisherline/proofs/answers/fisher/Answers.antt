-- Each line is put where the one before it ended, so the five are one text from place 0 on. Together they have at most 196 bytes, and there is room for 256.
use native.Mathlib.Omega.{arith}
use Rattle.fisherline.specs.Answers.{groups_line, ss_line, df_line, ms_line, f_line}
use Rattle.fisherline.proofs.Short.{until_ss, until_df, until_ms, two_lines, three_lines, four_lines, five_lines, puts_room}
use Rattle.fisherline.proofs.Spaced.{puts_more}
use Rattle.fisherline.proofs.answers.fisher.Goals as goal

pub line-df-requires : goal.line-df-requires
line-df-requires c =
    puts_room c.args.out.now (groups_line c.args.a) (ss_line c.args.a) c.line-ss.ensures (omega (arith, c.requires, two_lines c.args.a))

pub line-ms-requires : goal.line-ms-requires
line-ms-requires c =
    let two = puts_more c.args.out.now 0 (groups_line c.args.a) (ss_line c.args.a) c.line-ss.ensures c.line-df.ensures in
    puts_room c.args.out.now (until_ss c.args.a) (df_line c.args.a) two (omega (arith, c.requires, three_lines c.args.a))

pub line-f-requires : goal.line-f-requires
line-f-requires c =
    let two = puts_more c.args.out.now 0 (groups_line c.args.a) (ss_line c.args.a) c.line-ss.ensures c.line-df.ensures in
    let three = puts_more c.args.out.now 0 (until_ss c.args.a) (df_line c.args.a) two c.line-ms.ensures in
    puts_room c.args.out.now (until_df c.args.a) (ms_line c.args.a) three (omega (arith, c.requires, four_lines c.args.a))

pub line-requires : goal.line-requires
line-requires c =
    let two = puts_more c.args.out.now 0 (groups_line c.args.a) (ss_line c.args.a) c.line-ss.ensures c.line-df.ensures in
    let three = puts_more c.args.out.now 0 (until_ss c.args.a) (df_line c.args.a) two c.line-ms.ensures in
    let four = puts_more c.args.out.now 0 (until_df c.args.a) (ms_line c.args.a) three c.line-f.ensures in
    puts_room c.args.out.now (until_ms c.args.a) (f_line c.args.a) four (omega (arith, c.requires, five_lines c.args.a))

pub returns : goal.returns
returns c =
    let two = puts_more c.args.out.now 0 (groups_line c.args.a) (ss_line c.args.a) c.line-ss.ensures c.line-df.ensures in
    let three = puts_more c.args.out.now 0 (until_ss c.args.a) (df_line c.args.a) two c.line-ms.ensures in
    let four = puts_more c.args.out.now 0 (until_df c.args.a) (ms_line c.args.a) three c.line-f.ensures in
    puts_more c.args.out.now 0 (until_ms c.args.a) (f_line c.args.a) four c.line.ensures
