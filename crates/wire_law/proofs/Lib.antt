mod Machines
