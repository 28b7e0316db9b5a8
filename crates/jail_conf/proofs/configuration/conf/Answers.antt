use Rattle.std.proofs.lemmas.Result.{err_from_is_err_and}
use Rattle.std.proofs.Common.{◌≡◌, ◌∙◌, [], Ok, Err, codes, subst}
use Rattle.jail_conf.specs.Conf.{settings_in, jails_behind, jail_names}
use Rattle.jail_conf.specs.Items.{item}
use Rattle.jail_conf.specs.Readers.{as_written}
use Rattle.jail_conf.specs.Sources.{bases_of, sections_of, of_server, own}
use Rattle.jail_conf.specs.Table as table
use Rattle.jail_conf.specs.Then.{Gives}
use Rattle.jail_conf.proofs.AcceptedLemmas.{conf_is_fit, conf_is_within}
use Rattle.jail_conf.proofs.DatedLemmas.{conf_is_dated}
use Rattle.jail_conf.proofs.SettingsLemmas.{ServerIs, server_fails, socket_fails, purge_fails, sections_fail, jails_fail, settings_are}
use Rattle.jail_conf.proofs.StorableLemmas.{conf_is_storable}
use Rattle.jail_conf.proofs.configuration.conf.Goals as goal

pub returns-in_err-merged-clause-defined : goal.returns-in_err-merged-clause-defined
returns-in_err-merged-clause-defined c =
    let p = err_from_is_err_and c.from_residual-in_err-merged.result c.from_residual-in_err-merged.ensures.1 in
    let failed : Gives (settings_in (bases_of c.in_ok-files.files)) (Err c.in_err-merged.field-0.0) = server_fails (bases_of c.in_ok-files.files) c.in_err-merged.field-0.0 c.in_err-merged.ensures in
    rw (p.1, p.2) (subst (λ files. Gives (settings_in (bases_of files)) (Err c.in_err-merged.field-0.0)) c.in_ok-files.ensures failed)

pub returns-in_err-socket-clause-defined : goal.returns-in_err-socket-clause-defined
returns-in_err-socket-clause-defined c =
    let p = err_from_is_err_and c.from_residual-in_err-socket.result c.from_residual-in_err-socket.ensures.1 in
    let server : sections_of (bases_of c.in_ok-files.files) (codes "fail2ban") ≡ Ok c.in_ok-merged.merged = c.in_ok-merged.ensures in
    let refused : Gives (own (of_server c.in_ok-merged.merged) table.socket) (Err c.in_err-socket.field-0.0) =
    subst (λ source. Gives (own source table.socket) (Err c.in_err-socket.field-0.0)) c.in_ok-server.ensures
    (subst (λ default. Gives (own c.in_ok-server.server (item (codes "socket") as_written default)) (Err c.in_err-socket.field-0.0)) c.in_ok-default.ensures
    c.in_err-socket.ensures) in
    let failed : Gives (settings_in (bases_of c.in_ok-files.files)) (Err c.in_err-socket.field-0.0) =
    socket_fails (bases_of c.in_ok-files.files) c.in_ok-merged.merged c.in_err-socket.field-0.0 server refused in
    rw (p.1, p.2) (subst (λ files. Gives (settings_in (bases_of files)) (Err c.in_err-socket.field-0.0)) c.in_ok-files.ensures failed)

pub returns-in_err-purge-clause-defined : goal.returns-in_err-purge-clause-defined
returns-in_err-purge-clause-defined c =
    let p = err_from_is_err_and c.from_residual-in_err-purge.result c.from_residual-in_err-purge.ensures.1 in
    let server : sections_of (bases_of c.in_ok-files.files) (codes "fail2ban") ≡ Ok c.in_ok-merged.merged = c.in_ok-merged.ensures in
    let socket : own (of_server c.in_ok-merged.merged) table.socket ≡ Ok c.in_ok-socket.socket =
    subst (λ source. own source table.socket ≡ Ok c.in_ok-socket.socket) c.in_ok-server.ensures
    (subst (λ default. own c.in_ok-server.server (item (codes "socket") as_written default) ≡ Ok c.in_ok-socket.socket) c.in_ok-default.ensures c.in_ok-socket.ensures) in
    let refused : Gives (own (of_server c.in_ok-merged.merged) table.dbpurgeage) (Err c.in_err-purge.field-0.0) =
    subst (λ source. Gives (own source table.dbpurgeage) (Err c.in_err-purge.field-0.0)) c.in_ok-server.ensures c.in_err-purge.ensures in
    let failed : Gives (settings_in (bases_of c.in_ok-files.files)) (Err c.in_err-purge.field-0.0) =
    purge_fails (bases_of c.in_ok-files.files) c.in_ok-merged.merged c.in_ok-socket.socket c.in_err-purge.field-0.0 server socket refused in
    rw (p.1, p.2) (subst (λ files. Gives (settings_in (bases_of files)) (Err c.in_err-purge.field-0.0)) c.in_ok-files.ensures failed)

pub returns-in_err-sections-clause-defined : goal.returns-in_err-sections-clause-defined
returns-in_err-sections-clause-defined c =
    let p = err_from_is_err_and c.from_residual-in_err-sections.result c.from_residual-in_err-sections.ensures.1 in
    let server : sections_of (bases_of c.in_ok-files.files) (codes "fail2ban") ≡ Ok c.in_ok-merged.merged = c.in_ok-merged.ensures in
    let socket : own (of_server c.in_ok-merged.merged) table.socket ≡ Ok c.in_ok-socket.socket =
    subst (λ source. own source table.socket ≡ Ok c.in_ok-socket.socket) c.in_ok-server.ensures
    (subst (λ default. own c.in_ok-server.server (item (codes "socket") as_written default) ≡ Ok c.in_ok-socket.socket) c.in_ok-default.ensures c.in_ok-socket.ensures) in
    let purge : own (of_server c.in_ok-merged.merged) table.dbpurgeage ≡ Ok c.in_ok-purge.purge =
    subst (λ source. own source table.dbpurgeage ≡ Ok c.in_ok-purge.purge) c.in_ok-server.ensures c.in_ok-purge.ensures in
    let known : ServerIs (bases_of c.in_ok-files.files) c.in_ok-merged.merged c.in_ok-socket.socket c.in_ok-purge.purge =
    record { server_is = server; socket_is = socket; purge_is = purge } in
    let failed : Gives (settings_in (bases_of c.in_ok-files.files)) (Err c.in_err-sections.field-0.0) =
    sections_fail (bases_of c.in_ok-files.files) c.in_ok-merged.merged c.in_ok-socket.socket c.in_ok-purge.purge c.in_err-sections.field-0.0 known c.in_err-sections.ensures in
    rw (p.1, p.2) (subst (λ files. Gives (settings_in (bases_of files)) (Err c.in_err-sections.field-0.0)) c.in_ok-files.ensures failed)

pub returns-in_err-jails-clause-defined : goal.returns-in_err-jails-clause-defined
returns-in_err-jails-clause-defined c =
    let p = err_from_is_err_and c.from_residual-in_err-jails.result c.from_residual-in_err-jails.ensures.1 in
    let server : sections_of (bases_of c.in_ok-files.files) (codes "fail2ban") ≡ Ok c.in_ok-merged.merged = c.in_ok-merged.ensures in
    let socket : own (of_server c.in_ok-merged.merged) table.socket ≡ Ok c.in_ok-socket.socket =
    subst (λ source. own source table.socket ≡ Ok c.in_ok-socket.socket) c.in_ok-server.ensures
    (subst (λ default. own c.in_ok-server.server (item (codes "socket") as_written default) ≡ Ok c.in_ok-socket.socket) c.in_ok-default.ensures c.in_ok-socket.ensures) in
    let purge : own (of_server c.in_ok-merged.merged) table.dbpurgeage ≡ Ok c.in_ok-purge.purge =
    subst (λ source. own source table.dbpurgeage ≡ Ok c.in_ok-purge.purge) c.in_ok-server.ensures c.in_ok-purge.ensures in
    let known : ServerIs (bases_of c.in_ok-files.files) c.in_ok-merged.merged c.in_ok-socket.socket c.in_ok-purge.purge =
    record { server_is = server; socket_is = socket; purge_is = purge } in
    let sections : sections_of (bases_of c.in_ok-files.files) (codes "jail") ≡ Ok c.in_ok-sections.sections = c.in_ok-sections.ensures in
    let refused : Gives (jails_behind (bases_of c.in_ok-files.files) c.in_ok-sections.sections [] (jail_names c.in_ok-sections.sections)) (Err c.in_err-jails.field-0.0) =
    subst (λ names. Gives (jails_behind (bases_of c.in_ok-files.files) c.in_ok-sections.sections [] names) (Err c.in_err-jails.field-0.0)) (c.as_slice.ensures ∙ c.in_ok-names.ensures)
    c.in_err-jails.ensures in
    let failed : Gives (settings_in (bases_of c.in_ok-files.files)) (Err c.in_err-jails.field-0.0) =
    jails_fail (bases_of c.in_ok-files.files) c.in_ok-merged.merged c.in_ok-socket.socket c.in_ok-purge.purge c.in_ok-sections.sections c.in_err-jails.field-0.0 known sections
    refused in
    rw (p.1, p.2) (subst (λ files. Gives (settings_in (bases_of files)) (Err c.in_err-jails.field-0.0)) c.in_ok-files.ensures failed)

pub returns-clause-defined : goal.returns-clause-defined
returns-clause-defined c =
    let server : sections_of (bases_of c.in_ok-files.files) (codes "fail2ban") ≡ Ok c.in_ok-merged.merged = c.in_ok-merged.ensures in
    let socket : own (of_server c.in_ok-merged.merged) table.socket ≡ Ok c.in_ok-socket.socket =
    subst (λ source. own source table.socket ≡ Ok c.in_ok-socket.socket) c.in_ok-server.ensures
    (subst (λ default. own c.in_ok-server.server (item (codes "socket") as_written default) ≡ Ok c.in_ok-socket.socket) c.in_ok-default.ensures c.in_ok-socket.ensures) in
    let purge : own (of_server c.in_ok-merged.merged) table.dbpurgeage ≡ Ok c.in_ok-purge.purge =
    subst (λ source. own source table.dbpurgeage ≡ Ok c.in_ok-purge.purge) c.in_ok-server.ensures c.in_ok-purge.ensures in
    let known : ServerIs (bases_of c.in_ok-files.files) c.in_ok-merged.merged c.in_ok-socket.socket c.in_ok-purge.purge =
    record { server_is = server; socket_is = socket; purge_is = purge } in
    let sections : sections_of (bases_of c.in_ok-files.files) (codes "jail") ≡ Ok c.in_ok-sections.sections = c.in_ok-sections.ensures in
    let jails : jails_behind (bases_of c.in_ok-files.files) c.in_ok-sections.sections [] (jail_names c.in_ok-sections.sections) ≡ Ok c.in_ok-jails.jails =
    subst (λ names. jails_behind (bases_of c.in_ok-files.files) c.in_ok-sections.sections [] names ≡ Ok c.in_ok-jails.jails) (c.as_slice.ensures ∙ c.in_ok-names.ensures) c.in_ok-jails.ensures in
    let settings = settings_are (bases_of c.in_ok-files.files) c.in_ok-merged.merged c.in_ok-socket.socket c.in_ok-purge.purge c.in_ok-sections.sections c.in_ok-jails.jails known
    sections jails in
    subst (λ files. settings_in (bases_of files) ≡ Ok (record { defs = record { purge = c.in_ok-purge.purge; jails = c.in_ok-jails.jails }; socket = c.in_ok-socket.socket }))
    c.in_ok-files.ensures settings

pub returns-clause-fit : goal.returns-clause-fit
returns-clause-fit c =
    conf_is_fit c.args.tree.now (record { defs = record { purge = c.in_ok-purge.purge; jails = c.in_ok-jails.jails }; socket = c.in_ok-socket.socket }) (returns-clause-defined c)

pub returns-clause-limits : goal.returns-clause-limits
returns-clause-limits c =
    conf_is_within c.args.tree.now (record { defs = record { purge = c.in_ok-purge.purge; jails = c.in_ok-jails.jails }; socket = c.in_ok-socket.socket }) (returns-clause-defined c)

pub returns-clause-storable : goal.returns-clause-storable
returns-clause-storable c =
    conf_is_storable c.args.tree.now (record { defs = record { purge = c.in_ok-purge.purge; jails = c.in_ok-jails.jails }; socket = c.in_ok-socket.socket }) (returns-clause-defined c)
    c.see.ensures

pub returns-clause-dated : goal.returns-clause-dated
returns-clause-dated c =
    conf_is_dated c.args.tree.now (record { defs = record { purge = c.in_ok-purge.purge; jails = c.in_ok-jails.jails }; socket = c.in_ok-socket.socket }) (returns-clause-defined c)
