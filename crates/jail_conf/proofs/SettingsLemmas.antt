-- What a configuration comes to, step by step.
use Rattle.std.proofs.Common.{◌≡◌, ℕ, List, [], Ok, Err, codes, refl}
use Rattle.f2b_base.specs.declared.jail.JailDef.{JailDef}
use Rattle.ini_interp.specs.Sections.{Sections}
use Rattle.jail_conf.specs.declared.conf_error.ConfError.{ConfError}
use Rattle.jail_conf.specs.declared.fail.Fail.{Fail}
use Rattle.jail_conf.specs.Conf.{settings_in, jails_behind, jail_names}
use Rattle.jail_conf.specs.Sources.{Bases, sections_of, of_server, own}
use Rattle.jail_conf.specs.Table as table
use Rattle.jail_conf.specs.Then.{Gives}
use Rattle.jail_conf.proofs.FaultLemmas.{first_fails, first_is_there}

pub server_fails : (bases : Bases) (fail : Fail ConfError) → Gives (sections_of bases (codes "fail2ban")) (Err fail) → Gives (settings_in bases) (Err fail)
unfolding settings_in
server_fails bases fail given = first_fails (sections_of bases (codes "fail2ban")) _ fail given

pub socket_fails : (bases : Bases) (server : Sections) (fail : Fail ConfError) → sections_of bases (codes "fail2ban") ≡ Ok server →
    Gives (own (of_server server) table.socket) (Err fail) → Gives (settings_in bases) (Err fail)
unfolding settings_in
socket_fails bases server fail is given =
    first_is_there (sections_of bases (codes "fail2ban")) _ server (Err fail) is (first_fails (own (of_server server) table.socket) _ fail given)

pub purge_fails : (bases : Bases) (server : Sections) (socket : List ℕ) (fail : Fail ConfError) → sections_of bases (codes "fail2ban") ≡ Ok server →
    own (of_server server) table.socket ≡ Ok socket → Gives (own (of_server server) table.dbpurgeage) (Err fail) → Gives (settings_in bases) (Err fail)
unfolding settings_in
purge_fails bases server socket fail is socket_is given =
    first_is_there (sections_of bases (codes "fail2ban")) _ server (Err fail) is
    (first_is_there (own (of_server server) table.socket) _ socket (Err fail) socket_is
    (first_fails (own (of_server server) table.dbpurgeage) _ fail given))

-- what is known of the server
pub record ServerIs (bases : Bases) (server : Sections) (socket : List ℕ) (purge : ℕ) : Type 0 where
  pub server_is : sections_of bases (codes "fail2ban") ≡ Ok server
  pub socket_is : own (of_server server) table.socket ≡ Ok socket
  pub purge_is : own (of_server server) table.dbpurgeage ≡ Ok purge

pub sections_fail : (bases : Bases) (server : Sections) (socket : List ℕ) (purge : ℕ) (fail : Fail ConfError) → ServerIs bases server socket purge →
    Gives (sections_of bases (codes "jail")) (Err fail) → Gives (settings_in bases) (Err fail)
unfolding settings_in
sections_fail bases server socket purge fail is given =
    first_is_there (sections_of bases (codes "fail2ban")) _ server (Err fail) is.server_is
    (first_is_there (own (of_server server) table.socket) _ socket (Err fail) is.socket_is
    (first_is_there (own (of_server server) table.dbpurgeage) _ purge (Err fail) is.purge_is
    (first_fails (sections_of bases (codes "jail")) _ fail given)))

pub jails_fail : (bases : Bases) (server : Sections) (socket : List ℕ) (purge : ℕ) (sections : Sections) (fail : Fail ConfError) → ServerIs bases server socket purge →
    sections_of bases (codes "jail") ≡ Ok sections → Gives (jails_behind bases sections [] (jail_names sections)) (Err fail) → Gives (settings_in bases) (Err fail)
unfolding settings_in
jails_fail bases server socket purge sections fail is sections_are given =
    first_is_there (sections_of bases (codes "fail2ban")) _ server (Err fail) is.server_is
    (first_is_there (own (of_server server) table.socket) _ socket (Err fail) is.socket_is
    (first_is_there (own (of_server server) table.dbpurgeage) _ purge (Err fail) is.purge_is
    (first_is_there (sections_of bases (codes "jail")) _ sections (Err fail) sections_are
    (first_fails (jails_behind bases sections [] (jail_names sections)) _ fail given))))

pub settings_are : (bases : Bases) (server : Sections) (socket : List ℕ) (purge : ℕ) (sections : Sections) (jails : List JailDef) → ServerIs bases server socket purge →
    sections_of bases (codes "jail") ≡ Ok sections → jails_behind bases sections [] (jail_names sections) ≡ Ok jails →
    settings_in bases ≡ Ok (record { defs = record { purge = purge; jails = jails }; socket = socket })
unfolding settings_in
settings_are bases server socket purge sections jails is sections_are jails_are =
    rw is.server_is (rw (is.socket_is, is.purge_is) (rw sections_are (rw jails_are refl)))
